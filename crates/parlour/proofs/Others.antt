-- "In one step every other device, slot and listed change is as before" (`others_stay`), in any state; and a refused step leaves the state
-- (`refused-leaves`).
use Prim.Native.Nat.{ℕ, zero, suc, ◌^◌, ◌<◌, max}
use mathlib.Core.Bool.{Bool, true, false, true≢false}
use mathlib.Core.Path.{◌≡◌, refl, sym, ap, subst, ◌∙◌}
use mathlib.Core.Logic.{◌⊎◌, inl, inr, ⊎_map}
use mathlib.Core.List.{List}
use native.Mathlib.Nat.{le_refl}
use native.Mathlib.Omega.{arith}
use lib.Dec.{eqb}
use lib.ListN.{get_or, set}
use lib.Seq.{set-get_or}
use Rattle.sets.specs.Choice.{pick}
use Rattle.sets.specs.Sets.{digit, has, union}
use Rattle.sets.proofs.SetLaws.{digit_lt, has-digit, digit-has, digit-union, union-has-left}
use Rattle.sets.specs.Semilattice.{contained-refl, contained-left}
use Rattle.books.specs.declared.Book.{Book}
use Rattle.books.specs.Books.{book_inside}
use Rattle.books.proofs.BookLaws.{books-joined}
use Rattle.devices.specs.declared.Contents.{Contents}
use Rattle.devices.specs.declared.Tablet.{Tablet}
use Rattle.devices.specs.declared.Message.{Message}
use Rattle.std.specs.Prelude.{Ok, Err}
use Rattle.refusals.specs.declared.Refusal.{Refusal}
use Rattle.refusals.specs.declared.Refusal.TheVariants.{NoState, OutOfRange}
use Rattle.devices.specs.declared.Accepted.TheVariants.{Done, Round, Committed, Adopted}
use Rattle.devices.specs.declared.Here.{Here}
use Rattle.devices.specs.declared.Effect.{Effect}
use Rattle.devices.specs.declared.Step.{Step}
use Rattle.devices.specs.Contents.{fresh_contents, fresh_tablet}
use Rattle.devices.specs.Effects.{Outcome, kept_after, refuse}
use Rattle.rules.specs.Table.{row, in_range, slot_named, device_named}
use Rattle.rules.specs.Rules.{effect_of}
use Rattle.state.specs.declared.Run.{Run}
use Rattle.state.specs.State.{proper_message, proper}
use Rattle.state.proofs.StateLaws.{proper-parts, answer-to}
use Rattle.parlour.specs.Steps.{within, slot_of, here_at, applied, taken_if, taken}
use Rattle.parlour.specs.Statements.{device_at, tablet_at, Acting, Frees, Halts, OthersStay}
use Rattle.sets.proofs.Single.{in-single}
use Rattle.parlour.proofs.Places.{tablet-place, slot-named, device-named}
use Rattle.parlour.proofs.Acts.{Acts, refused, asks, hears_request, hears_answer, hears_commit, goes_on, commits, adopts, changes_none, message_for, device_for, here_for, effect_for, acts-for}
use Rattle.parlour.proofs.Frame.{device-other, tablet-other, slot-other, refusal-leaves}
use Rattle.parlour.proofs.ProperStays.{listed-stays, listed-longer}

-- ---- What an effect leaves alone

-- each part is as it was, or is the one that the step may change
record Leaves (step : Step) (m : Message) (slot d : ℕ) (h : Here) (e : Effect) : Type 0 where
  contents : (e.contents ≡ h.contents) ⊎ Acting step m d
  tablet : (e.tablet ≡ h.tablet) ⊎ Acting step m (within 8 d)
  frees : (e.frees ≡ false) ⊎ Frees step slot
  stops : (e.stops ≡ false) ⊎ Halts step m d

acts-leave : {known : Bool} (h : Here) {step : Step} {m : Message} {e : Effect} (n slot d : ℕ) → proper_message n m ≡ true
    → slot ≡ slot_named (row step).names → d ≡ device_named (row step).names m → Acts known h step m e → Leaves step m slot d h e
unfolding refuse
acts-leave h n slot d p s a (refused step m k b) = record { contents = inl refl; tablet = inl refl; frees = inl refl; stops = inl refl }
acts-leave h n slot d p s a (asks tablet own pair m listed named l i r x) =
    record { contents = inr (refl, a); tablet = inr (refl, tablet-place a (omega arith)); frees = inl refl; stops = inl refl }
acts-leave h n slot d p s a (hears_request k l) = record { contents = inr (refl, a); tablet = inl refl; frees = inr (refl, s); stops = inl refl }
acts-leave h n slot d p s a (hears_answer k l) =
    record { contents = inr (refl, a); tablet = inr (refl, tablet-place a (answer-to n l p)); frees = inr (refl, s); stops = inl refl }
acts-leave h n slot d p s a (hears_commit k c) = record { contents = inr (refl, a); tablet = inl refl; frees = inr (refl, s); stops = inl refl }
acts-leave h n slot d p s a (goes_on tablet m x floor l i r f) =
    record { contents = inl refl; tablet = inr (refl, tablet-place a (omega arith)); frees = inl refl; stops = inl refl }
acts-leave h n slot d p s a (commits tablet m x l i y z w) =
    record { contents = inl refl; tablet = inr (refl, tablet-place a (omega arith)); frees = inl refl; stops = inl refl }
acts-leave h n slot d p s a (adopts tablet m x floor l i f y) =
    record { contents = inl refl; tablet = inr (refl, tablet-place a (omega arith)); frees = inl refl; stops = inl refl }
acts-leave h n slot d p s a (changes_none step m frees stops sending i f g c) =
    record { contents = inl refl; tablet = inl refl; frees = ⊎_map (λ q. q) (λ q. (q, s)) f; stops = ⊎_map (λ q. q) (λ q. (q, a)) g }

-- ---- Stopped devices and the kept join

-- one device more is stopped: what holds of every other stays
other-stopped : (stopped d q : ℕ) → (q ≡ d → ⊥) → has q (union stopped (2 ^ d)) ≡ has q stopped
other-stopped stopped d q n = ap (λ (x : ℕ). eqb x 1) (digit-union q stopped (2 ^ d) ∙ go (digit q (2 ^ d)) refl (digit_lt q (2 ^ d)))
  where
    go : (x : ℕ) → digit q (2 ^ d) ≡ x → x < 2 → max (digit q stopped) x ≡ digit q stopped
    go zero e l = omega arith
    go (suc x) e l = absurd (n (in-single d q (e ∙ omega arith)))

halts-other : (b : Bool) (stopped d q : ℕ) → (b ≡ false) ⊎ (q ≡ d → ⊥) → has q (pick b (union stopped (2 ^ d)) stopped) ≡ has q stopped
halts-other false stopped d q n = refl
halts-other true stopped d q (inl e) = absurd (true≢false e)
halts-other true stopped d q (inr n) = other-stopped stopped d q n

stays-stopped : (b : Bool) (stopped d q : ℕ) → has q stopped ≡ true → has q (pick b (union stopped (2 ^ d)) stopped) ≡ true
stays-stopped false stopped d q h = h
stays-stopped true stopped d q h = digit-has q (union stopped (2 ^ d)) (union-has-left q stopped (2 ^ d) (has-digit q stopped h))

kept-grows : (answer : Outcome) (kept : Book) → book_inside kept (kept_after answer kept) ≡ true
kept-grows (Ok Done) kept = contained-refl books-joined kept
kept-grows (Ok (Round n)) kept = contained-refl books-joined kept
kept-grows (Ok (Committed b)) kept = contained-left books-joined kept b
kept-grows (Ok (Adopted b)) kept = contained-left books-joined kept b
kept-grows (Err refusal) kept = contained-refl books-joined kept

-- ---- The step

-- the place that a step may change is another
other : (P : ℕ → Type 0) {p q : ℕ} → (P q → ⊥) → P p → q ≡ p → ⊥
other P n a e = n (subst P (sym e) a)

-- a part stored as it was read leaves the list
stored_same : {A : Type 0} (xs : List A) (i : ℕ) (d : A) {x : A} → x ≡ get_or xs i d → set xs i x ≡ xs
stored_same xs i d e = ap (set xs i) e ∙ set-get_or xs i d

same-stay : (step : Step) (r : Run) → OthersStay step r r
same-stay step r =
    record {
      devices = λ q n. refl;
      tablets = λ q n. refl;
      slots = λ k n h. refl;
      listed = λ k l. refl;
      longer = le_refl _;
      stopped = λ q n. refl;
      for_good = λ q h. h;
      first = refl;
      kept = contained-refl books-joined r.kept;
    }

-- only a refusal has a refusal's outcome
acts-refused : {known : Bool} (n : Refusal) (h : Here) {step : Step} {m : Message} {e : Effect} → Acts known h step m e → e.outcome ≡ Err n
    → e ≡ refuse n h
unfolding refuse
acts-refused n h (refused step m k b) q = let i : k ≡ n = cc in ap (λ (x : Refusal). refuse x h) i
acts-refused n h (asks tablet own pair m listed named l i r x) q = cc
acts-refused n h (hears_request slot l) q = cc
acts-refused n h (hears_answer slot l) q = cc
acts-refused n h (hears_commit slot c) q = cc
acts-refused n h (goes_on tablet m a floor l i r f) q = cc
acts-refused n h (commits tablet m a l i x y z) q = cc
acts-refused n h (adopts tablet m a floor l i f x) q = cc
acts-refused n h (changes_none step m frees stops sending i f g c) q = cc

module _ (step : Step) (r : Run) where
  -- short names for what the step is about
  abbrev m : Message
  m = message_for step r

  abbrev d : ℕ
  d = device_for step r

  abbrev h : Here
  h = here_for step r

  abbrev e : Effect
  e = effect_for step r

  refusal-run : (n : Refusal) → e ≡ refuse n h → (taken step r).run ≡ r
  unfolding taken taken_if
  refusal-run n q = ap (λ (x : Effect). (applied (slot_of step) d x r).run) q ∙ refusal-leaves n (slot_of step) d r

  pub refused-leaves : (n : Refusal) → (taken step r).outcome ≡ Err n → (taken step r).run ≡ r
  unfolding taken taken_if applied
  refused-leaves n q = refusal-run n (acts-refused n h (acts-for step r) q)

  left-stay : Leaves step m (slot_of step) d h e → OthersStay step r (taken step r).run
  unfolding taken taken_if applied here_at
  left-stay l =
      record {
        devices = λ q n. device q n l.contents;
        tablets = λ q n. tablet q n l.tablet;
        slots = λ k n f. slot-other (slot_of step) d e r k f (⊎_map (λ i. i) (other (Frees step) n) l.frees);
        listed = listed-stays step r;
        longer = listed-longer step r;
        stopped = λ q n. halts-other e.stops r.stopped d q (⊎_map (λ i. i) (other (Halts step m) n) l.stops);
        for_good = λ q f. stays-stopped e.stops r.stopped d q f;
        first = refl;
        kept = kept-grows e.outcome r.kept;
      }
    where
      device : (q : ℕ) → (Acting step m q → ⊥) → (e.contents ≡ h.contents) ⊎ Acting step m d → device_at q (taken step r).run ≡ device_at q r
      device q n (inl i) = ap (λ (xs : List Contents). get_or xs q (fresh_contents 0)) (stored_same r.devices d (fresh_contents 0) i)
      device q n (inr a) = device-other (slot_of step) d e r q (other (Acting step m) n a)

      tablet : (q : ℕ) → (Acting step m q → ⊥) → (e.tablet ≡ h.tablet) ⊎ Acting step m (within 8 d)
          → tablet_at q (taken step r).run ≡ tablet_at q r
      tablet q n (inl i) = ap (λ (xs : List Tablet). get_or xs q fresh_tablet) (stored_same r.tablets (within 8 d) fresh_tablet i)
      tablet q n (inr a) = tablet-other (slot_of step) d e r q (other (Acting step m) n a)

  pub others_stay : OthersStay step r (taken step r).run
  unfolding effect_of
  others_stay = go (proper r) refl (in_range (row step).names) refl
    where
      untouched : (n : Refusal) → e ≡ refuse n h → OthersStay step r (taken step r).run
      untouched n q = subst (OthersStay step r) (sym (refusal-run n q)) (same-stay step r)

      go : (ok : Bool) → proper r ≡ ok → (in-range : Bool) → in_range (row step).names ≡ in-range → OthersStay step r (taken step r).run
      go false p b i = untouched NoState (rw p)
      go true p false i = untouched OutOfRange (rw (p, i))
      go true p true i =
          let message = (proper-parts r p).messages (slot_of step) in
          left-stay (acts-leave h r.listed.count (slot_of step) d message (slot-named (row step).names i)
          (device-named r.listed.count (row step).names m i message) (acts-for step r))
