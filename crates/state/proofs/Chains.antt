-- What chains of iterators give, in the words of specs/: `.all(..)` over a list `all` (`all_ran`), over its first places `each` (`list_each`), over the numbers
-- below a bound `each` too (`list_each-range`); `.filter(..).count()` gives `many` (`many_counted`).
use Prim.Native.Nat.{ℕ, zero, suc, ◌≤◌, ◌<◌}
use mathlib.Core.Bool.{Bool, true, false, cond, ◌&&◌}
use mathlib.Core.List.{List, [], ◌∷◌}
use mathlib.Core.Path.{◌≡◌, refl, sym, ap, ap₂, ◌∙◌}
use native.Mathlib.Nat.{zero-add}
use native.Mathlib.Numerals.{add-one}
use native.Mathlib.Omega.{arith}
use lib.ListN.{get_or, take, length}
use lib.Seq.{take_all}
use Rattle.std.specs.List.{list_all, range_with_len, filter}
use Rattle.std.proofs.lemmas.List.Folds.{list_all_more}
use Rattle.std.proofs.lemmas.List.FromFn.{length-range_with_len, get_or-range_with_len}
use Rattle.std.specs.Prelude.{Option}
use Rattle.std.specs.Iterator.{ChecksAll}
use Rattle.std.specs.Fn.{Called}
use denote.Param.Members.{Mut}
use Rattle.std.proofs.lemmas.Iterator.{YieldsList}
use Rattle.std.proofs.lemmas.Iterator.Search.{all_from_yields_List}
use Rattle.sets.specs.Choice.{pick, both}
use Rattle.sets.specs.Bounded.{each}
use Rattle.state.specs.Slots.{all, many}

pub and_both : (a b : Bool) → (a && b) ≡ both a b
and_both true b = refl
and_both false b = refl

pub all_listed : {A : Type 0} (p : A → Bool) (xs : List A) → list_all p xs ≡ all p xs
unfolding all
all_listed p [] = refl
all_listed p (x ∷ xs) = ap (λ (b : Bool). p x && b) (all_listed p xs) ∙ and_both (p x) (all p xs)

-- what `.all(..)` answers, where the closure computes the test p of each item
pub all_ran : {S A B F : Type 0} {steps : S → Option A → S → Type 0} {v : A → B} {g : Mut F (A × Unit {0}) Bool} {s : S} {xs : List B}
    (p : B → Bool) (u : S) (f : F) (r : Bool) → ChecksAll steps g s f r u → YieldsList steps v s xs
    → ((x : A) (b : Bool) (q : F) → Called g f (x, tt) b q → (q ≡ f) × (b ≡ p (v x))) → r ≡ all p xs
all_ran p u f r ran yields called = all_from_yields_List p u f r ran yields called ∙ all_listed p _

module _ {A : Type 0} (p : A → Bool) (d : A) (xs : List A) (q : ℕ → Bool) where
  pub list_each : (n : ℕ) → n ≤ length xs → ((k : ℕ) → k < n → p (get_or xs k d) ≡ q k) → list_all p (take n xs) ≡ each n q
  unfolding each
  list_each zero h e = refl
  list_each (suc n) h e =
      ap (λ (k : ℕ). list_all p (take k xs)) (sym (add-one n)) ∙ list_all_more p xs n d (omega arith)
      ∙ and_both (list_all p (take n xs)) (p (get_or xs n d))
      ∙ ap₂ both (list_each n (omega arith) (λ k l. e k (omega arith))) (e n (omega arith))

pub list_each-range : (p : ℕ → Bool) (n : ℕ) → list_all p (range_with_len 0 n) ≡ each n p
list_each-range p n =
    let l = length-range_with_len 0 n in
    ap (list_all p) (sym (take_all n (range_with_len 0 n) (omega (arith, l))))
    ∙ list_each p 0 (range_with_len 0 n) p n (omega (arith, l)) (λ k h. ap p (get_or-range_with_len 0 n k 0 h ∙ zero-add k))

-- ---- Of how many

pub many_counted : {A : Type 0} (p : A → Bool) (xs : List A) → length (filter p xs) ≡ many p xs
unfolding many
many_counted p [] = refl
many_counted p (x ∷ xs) = go (p x) (many_counted p xs)
  where
    go : (t : Bool) → length (filter p xs) ≡ many p xs → length (cond t (x ∷ filter p xs) (filter p xs)) ≡ pick t (suc (many p xs)) (many p xs)
    go true e = ap suc e
    go false e = e
