-- "a set T of listed changes not contained in v's configuration": so it is of every device in every state of a run from a fresh start
-- (`ran-outstanding`). A merge leaves such a T whatever came in (`merged-apart`), no other step touches T, and the list is never shortened.
use Prim.Native.Nat.{ℕ, ◌^◌, ◌<◌}
use mathlib.Core.Bool.{Bool, true, false}
use mathlib.Core.List.{List, [], ◌∷◌}
use mathlib.Core.Path.{◌≡◌, sym, ap, ◌∙◌}
use native.Mathlib.Nat.{lt_irrefl}
use native.Mathlib.Omega.{arith}
use lib.ListN.{length}
use Rattle.sets.specs.Sets.{has, union}
use Rattle.sets.proofs.SetLaws.{has-digit}
use Rattle.books.specs.declared.Config.{Config}
use Rattle.books.specs.declared.Listed.{Listed}
use Rattle.books.specs.Books.{config_inside, join_configs}
use Rattle.books.specs.Queried.{change_at}
use Rattle.books.proofs.QueriedLaws.{in-outside}
use Rattle.devices.specs.declared.Contents.{Contents}
use Rattle.devices.specs.declared.Message.{Message}
use Rattle.devices.specs.declared.Here.{Here}
use Rattle.devices.specs.declared.Effect.{Effect}
use Rattle.devices.specs.declared.Step.{Step}
use Rattle.devices.specs.Contents.{fresh_contents, merged}
use Rattle.devices.specs.Effects.{refuse}
use Rattle.state.specs.declared.Run.{Run}
use Rattle.state.specs.State.{fresh, proper}
use Rattle.state.proofs.SlotLaws.{replaced-at}
use Rattle.state.proofs.StateLaws.{sized_fresh, fresh-proper, proper-parts}
use Rattle.parlour.specs.Steps.{here_at, applied, taken_if, taken}
use Rattle.parlour.specs.Statements.{device_at, ran, Outstanding}
use Rattle.sets.proofs.Single.{below-width}
use Rattle.parlour.proofs.Acts.{Acts, refused, asks, hears_request, hears_answer, hears_commit, goes_on, commits, adopts, changes_none, device_for, here_for, effect_for, acts-for}
use Rattle.parlour.proofs.ProperStays.{listed-stays, long-stays, proper_stays, ran-proper}

-- v's configuration contains no change of T
abbrev Apart : Listed → Contents → Type 0
Apart listed c = (k : ℕ) → has k c.t ≡ true → config_inside (change_at listed k) c.v.config ≡ false

merged-apart : (listed : Listed) (mine theirs : Contents) → Apart listed (merged listed mine theirs)
unfolding merged
merged-apart listed mine theirs k h =
    (in-outside listed (join_configs mine.v.config theirs.v.config) (union mine.t theirs.t) k (has-digit k _ h)).2

acts-apart : {known : Bool} (h : Here) {step : Step} {m : Message} {e : Effect} → Acts known h step m e → Apart h.listed h.contents
    → Apart e.listed e.contents
unfolding refuse
acts-apart h (refused step m n b) a = a
acts-apart h (asks tablet own pair m listed named l i r n) a = merged-apart listed h.contents _
acts-apart h (hears_request slot l) a = merged-apart h.listed h.contents _
acts-apart h (hears_answer slot l) a = merged-apart h.listed h.contents _
acts-apart h (hears_commit slot n) a = merged-apart h.listed h.contents _
acts-apart h (goes_on tablet m x floor l i r f) a = a
acts-apart h (commits tablet m x l i y z w) a = a
acts-apart h (adopts tablet m x floor l i f y) a = a
acts-apart h (changes_none step m frees stops sending i f g c) a = a

step-apart : (step : Step) (r : Run) → proper r ≡ true → ((d : ℕ) → Apart r.listed (device_at d r)) → (d : ℕ)
    → Apart (taken step r).run.listed (device_at d (taken step r).run)
unfolding taken taken_if applied here_at
step-apart step r p a d =
    replaced-at (λ (x y : Contents). x.t < 2 ^ r.listed.count → Apart r.listed x → Apart (effect_for step r).listed y) stays
    (fresh_contents 0) r.devices (device_for step r) (effect_for step r).contents (λ l. acts-apart (here_for step r) (acts-for step r)) d
    ((proper-parts r p).devices d) (a d)
  where
    -- the changes that T names were listed, and stay at their places
    stays : (x : Contents) → x.t < 2 ^ r.listed.count → Apart r.listed x → Apart (effect_for step r).listed x
    stays x l b k h =
        ap (λ (c : Config). config_inside c x.v.config)
        (sym (listed-stays step r k (below-width r.listed.count x.t k l (has-digit k x.t h)))) ∙ b k h

ran-apart : (r : Run) (steps : List Step) → length r.listed.changes ≡ 6 → proper r ≡ true → ((d : ℕ) → Apart r.listed (device_at d r))
    → (d : ℕ) → Apart (ran r steps).listed (device_at d (ran r steps))
unfolding ran
ran-apart r [] l p a = a
ran-apart r (step ∷ later) l p a =
    ran-apart (taken step r).run later (long-stays step r l) (proper_stays step r l p) (step-apart step r p a)

-- a fresh T names no change
fresh-apart : (first d : ℕ) → Apart (fresh first).listed (device_at d (fresh first))
unfolding fresh
fresh-apart first d k h =
    let l : k < 0 = below-width 0 _ k ((proper-parts (fresh first) (fresh-proper first)).devices d) (has-digit k _ h) in
    absurd (lt_irrefl 0 (omega arith))

pub ran-outstanding : (first : ℕ) (steps : List Step) (d : ℕ) → Outstanding (ran (fresh first) steps).listed (device_at d (ran (fresh first) steps))
ran-outstanding first steps d k h =
    let long = (sized_fresh first).changes in
    let p = ran-proper (fresh first) steps long (fresh-proper first) in (
      below-width _ _ k ((proper-parts (ran (fresh first) steps) p).devices d) (has-digit k _ h),
      ran-apart (fresh first) steps long (fresh-proper first) (fresh-apart first) d k h,
    )
