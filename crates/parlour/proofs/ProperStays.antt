-- A step keeps a proper state proper, its lists as long as they were, and the listed changes at their places, whatever the step is
-- (`proper_stays`, `sized-stays`, `listed-stays`, `listed-longer`). Refusal 1 is given to no proper state (`proper-not-1`).
-- So every state of a run from a proper one is proper (`ran-proper`).
use Prim.Native.Nat.{ℕ, ◌^◌, ◌<◌, ◌≤◌}
use mathlib.Core.Bool.{Bool, true}
use mathlib.Core.List.{List, [], ◌∷◌}
use mathlib.Core.Path.{◌≡◌, refl}
use native.Mathlib.Nat.{le_refl}
use native.Mathlib.Omega.{arith}
use lib.Dec.{ltb}
use lib.ListN.{length}
use lib.Pow.{pow_pos}
use borrow.Author.Tests.{lt-ltb}
use Rattle.sets.specs.Choice.{both}
use Rattle.sets.specs.Sets.{has}
use Rattle.sets.proofs.BoundedLaws.{both-on}
use Rattle.books.specs.Queried.{change_at}
use Rattle.devices.specs.declared.Contents.{Contents}
use Rattle.devices.specs.declared.Tablet.{Tablet}
use Rattle.devices.specs.declared.Message.{Message}
use Rattle.devices.specs.declared.Sending.{Sending}
use Rattle.devices.specs.declared.Here.{Here}
use Rattle.devices.specs.declared.Effect.{Effect}
use Rattle.devices.specs.declared.Step.{Step}
use Rattle.devices.specs.Contents.{merged}
use Rattle.devices.specs.Effects.{Outcome, number_of, addressed, refuse}
use Rattle.state.specs.declared.Run.{Run}
use Rattle.state.specs.State.{all_different, proper_tablet, is_tablet, is_box, proper_message, proper}
use Rattle.state.proofs.StateLaws.{Sized, Proper, proper-parts, parts-proper, letter-fits}
use Rattle.state.proofs.ListingLaws.{fits_more}
use Rattle.parlour.specs.Steps.{within, slot_of, here_at, applied, taken_if, taken}
use Rattle.parlour.specs.Statements.{ran}
use Rattle.parlour.proofs.Acts.{Acts, refused, asks, hears_request, hears_answer, hears_commit, goes_on, commits, adopts, changes_none, device_for, here_for, effect_for, acts-for}
use Rattle.parlour.proofs.Naming.{naming-more, naming-few, naming-different, naming-fits, Lists, as_before, by_ask, lists-same, lists-more, lists-long}
use Rattle.parlour.proofs.Frame.{sized-applied}
use Rattle.parlour.proofs.ProperEffect.{ProperEffect, proper-applied, merged-fits, marked-proper, idle-proper, resends-proper, begins-proper, answer-proper}

-- ---- A proper state stays proper

-- a device where the rules see nothing improper
record ProperHere (h : Here) : Type 0 where
  few : h.listed.count ≤ 6
  different : all_different h.listed ≡ true
  long : length h.listed.changes ≡ 6
  contents : h.contents.t < 2 ^ h.listed.count
  tablet : proper_tablet h.listed.count h.tablet ≡ true

-- an effect that lists no further change
module _ (outcome : Outcome) (c : Contents) (x : Tablet) (frees stops : Bool) (sending : Sending) (h : Here) where
  abbrev settled : Effect
  settled = record { outcome = outcome; contents = c; tablet = x; listed = h.listed; frees = frees; stops = stops; sending = sending }

  settled-proper : ProperHere h → c.t < 2 ^ h.listed.count → proper_tablet h.listed.count x ≡ true
      → ((d : ℕ) → d < 24 → has d sending.to ≡ true → proper_message h.listed.count (addressed sending.message d) ≡ true)
      → ProperEffect h.listed.count settled
  settled-proper p fits tablet messages =
      record {
        more = le_refl h.listed.count;
        few = p.few;
        different = p.different;
        contents = fits;
        tablet = tablet;
        messages = messages;
      }

acts-proper : {known : Bool} (h : Here) {step : Step} {m : Message} {e : Effect} → ProperHere h → proper_message h.listed.count m ≡ true
    → Acts known h step m e → ProperEffect h.listed.count e
unfolding refuse
acts-proper h p q (refused step m n b) = settled-proper _ _ _ _ _ _ h p p.contents p.tablet (λ d u i. refl)
acts-proper h p q (asks tablet own pair m listed named l i r n) =
    begins-proper tablet _ _ listed _ h l r (naming-more n) (naming-few n p.few) (naming-different n p.long p.different)
    (merged-fits listed.count listed _ _ (fits_more (naming-more n) p.contents) (naming-fits n))
acts-proper h p q (hears_request slot l) =
    let kinds = both (is_tablet l.from) (is_box l.to) in
    let c = merged-fits h.listed.count h.listed h.contents l.contents p.contents (letter-fits h.listed.count kinds l q) in
    settled-proper _ _ _ _ _ _ h p c p.tablet (λ d u i. answer-proper h.listed.count l (merged h.listed h.contents l.contents) q c d i)
acts-proper h p q (hears_answer slot l) =
    let kinds = both (is_box l.from) (is_tablet l.to) in
    settled-proper _ _ _ _ _ _ h p
    (merged-fits h.listed.count h.listed h.contents l.contents p.contents (letter-fits h.listed.count kinds l q))
    (marked-proper h.listed.count l h.tablet p.tablet) (λ d u i. refl)
acts-proper h p q (hears_commit slot n) =
    settled-proper _ _ _ _ _ _ h p (merged-fits h.listed.count h.listed h.contents _ p.contents (pow_pos h.listed.count))
    p.tablet (λ d u i. refl)
acts-proper h p q (goes_on tablet m a floor l i r f) =
    begins-proper tablet _ _ h.listed _ h l r (le_refl h.listed.count) p.few p.different p.contents
acts-proper h p q (commits tablet m a l i x y z) =
    settled-proper _ _ _ _ _ _ h p p.contents (idle-proper h.listed.count h.tablet p.tablet)
    (λ d u j. both-on (is_tablet tablet) (ltb d 24) (lt-ltb tablet 8 (omega arith)) (lt-ltb d 24 u))
acts-proper h p q (adopts tablet m a floor l i f x) =
    settled-proper _ _ _ _ _ _ h p p.contents (idle-proper h.listed.count h.tablet p.tablet) (λ d u j. refl)
acts-proper h p q (changes_none step m frees stops sending i f g c) =
    settled-proper _ _ _ _ _ _ h p p.contents p.tablet (resends-proper h.listed.count q c)

-- ---- The list of changes

acts-lists : {known : Bool} {h : Here} {step : Step} {m : Message} {e : Effect} → Acts known h step m e → Lists h.listed e.listed
unfolding refuse
acts-lists (refused step m n b) = as_before
acts-lists (asks tablet own pair m listed named l i r n) = by_ask n
acts-lists (hears_request slot l) = as_before
acts-lists (hears_answer slot l) = as_before
acts-lists (hears_commit slot n) = as_before
acts-lists (goes_on tablet m a floor l i r f) = as_before
acts-lists (commits tablet m a l i x y z) = as_before
acts-lists (adopts tablet m a floor l i f x) = as_before
acts-lists (changes_none step m frees stops sending i f g c) = as_before

-- ---- The number of an outcome

-- a refusal of a proper state is by 2 or more, and every other outcome has the number 0
acts-not-1 : {known : Bool} {h : Here} {step : Step} {m : Message} {e : Effect} → known ≡ true → Acts known h step m e
    → number_of e.outcome ≡ 1 → ⊥
unfolding refuse
acts-not-1 p (refused step m n b) q = let l = b p in omega arith
acts-not-1 p (asks tablet own pair m listed named l i r n) q = omega (arith, q)
acts-not-1 p (hears_request slot l) q = omega (arith, q)
acts-not-1 p (hears_answer slot l) q = omega (arith, q)
acts-not-1 p (hears_commit slot n) q = omega (arith, q)
acts-not-1 p (goes_on tablet m a floor l i r f) q = omega (arith, q)
acts-not-1 p (commits tablet m a l i x y z) q = omega (arith, q)
acts-not-1 p (adopts tablet m a floor l i f x) q = omega (arith, q)
acts-not-1 p (changes_none step m frees stops sending i f g c) q = omega (arith, q)

-- ---- The step

module _ (step : Step) (r : Run) where
  lists : Lists r.listed (taken step r).run.listed
  unfolding taken taken_if applied here_at
  lists = acts-lists (acts-for step r)

  pub listed-stays : (k : ℕ) → k < r.listed.count → change_at r.listed k ≡ change_at (taken step r).run.listed k
  listed-stays = lists-same lists

  pub listed-longer : r.listed.count ≤ (taken step r).run.listed.count
  listed-longer = lists-more lists

  pub long-stays : length r.listed.changes ≡ 6 → length (taken step r).run.listed.changes ≡ 6
  long-stays = lists-long lists

  pub sized-stays : Sized r → Sized (taken step r).run
  unfolding taken taken_if applied
  sized-stays s = sized-applied (slot_of step) (device_for step r) (effect_for step r) r s (long-stays s.changes)

  -- what the rules see of a proper state is proper
  here-proper : length r.listed.changes ≡ 6 → Proper r → ProperHere (here_for step r)
  unfolding here_at
  here-proper l p =
      record { few = p.few; different = p.different; long = l; contents = p.devices (device_for step r); tablet = p.tablets (within 8 (device_for step r)) }

  effect-proper : length r.listed.changes ≡ 6 → Proper r → ProperEffect r.listed.count (effect_for step r)
  unfolding here_at
  effect-proper l p = acts-proper (here_for step r) (here-proper l p) (p.messages (slot_of step)) (acts-for step r)

  pub proper_stays : length r.listed.changes ≡ 6 → proper r ≡ true → proper (taken step r).run ≡ true
  unfolding taken taken_if
  proper_stays l i =
      let p = proper-parts r i in
      parts-proper (taken step r).run (proper-applied (slot_of step) (device_for step r) (effect_for step r) r p (effect-proper l p))

  pub proper-not-1 : proper r ≡ true → number_of (taken step r).outcome ≡ 1 → ⊥
  unfolding taken taken_if applied
  proper-not-1 p = acts-not-1 p (acts-for step r)

-- ---- The run

pub ran-proper : (r : Run) (steps : List Step) → length r.listed.changes ≡ 6 → proper r ≡ true → proper (ran r steps) ≡ true
unfolding ran
ran-proper r [] l p = p
ran-proper r (step ∷ later) l p = ran-proper (taken step r).run later (long-stays step r l) (proper_stays step r l p)
