-- A set of places in the list of changes, read as the list of the changes there: what is in it (`named_in`, `in-named`), that it stays the same
-- while further changes are listed (`changes-stay`), what joining it gives (`joined_as`), and that testing every subset is enough (`allowed-as`).
use Prim.Native.Nat.{ℕ, zero, suc, ◌<◌}
use mathlib.Core.Bool.{Bool, true, false, false≢true}
use mathlib.Core.Path.{◌≡◌, refl, sym, ap, ap₂, subst, ◌∙◌}
use mathlib.Core.Logic.{inl, inr, ⊎_elim}
use mathlib.Core.List.{List, [], ◌∷◌}
use native.Mathlib.Nat.{lt_irrefl, eq-or-lt_of_le, le_of_suc-le-suc}
use native.Mathlib.Omega.{arith}
use Rattle.sets.specs.Choice.{pick, both}
use Rattle.sets.specs.Sets.{has, inside}
use Rattle.sets.specs.Bounded.{times, those}
use Rattle.sets.proofs.SetLaws.{has-digit, digit-has, has-inside}
use Rattle.sets.proofs.BoundedLaws.{both_left, both_right, both-on, those-lt, those-has, in-those}
use Rattle.books.specs.declared.Config.{Config}
use Rattle.books.specs.declared.Listed.{Listed}
use Rattle.books.specs.Books.{join_configs, same_config, has_majority}
use Rattle.books.specs.Queried.{change_at, join_change, joined_with, every_majority}
use Rattle.books.proofs.BookLaws.{configs-joined, configs-decided}
use Rattle.books.proofs.QueriedLaws.{majority-at}
use Rattle.agreement.specs.Lattice.{AtMost, Among}
use Rattle.agreement.specs.Setting.{Contents as AbstractContents}
use Rattle.agreement.specs.Steps.{Allowed}
use Rattle.agreement.proofs.Order.{at-most-antisymm}
use Rattle.agreement.proofs.Changes.{join_all, join-all-base, join-all-change, join-all-least}
use Rattle.promise.proofs.Reading.{joined_configs, parlour, changes_below, as_changes}

-- ---- What is in it

-- the change stands at a place below k that the set names
pub record Named (listed : Listed) (t k : ℕ) (change : Config) : Type 0 where
  pub place : ℕ
  pub below : place < k
  pub there : has place t ≡ true
  pub is : change ≡ change_at listed place

module _ (listed : Listed) (t : ℕ) (change : Config) where
  named_more : (k : ℕ) → Named listed t k change → Named listed t (suc k) change
  named_more k n = record { place = n.place; below = omega (arith, n.below); there = n.there; is = n.is }

  pub in-named : (k : ℕ) → Among change (changes_below listed t k) → Named listed t k change
  unfolding changes_below
  in-named zero i = absurd i
  in-named (suc k) i = go (has k t) refl i (in-named k)
    where
      go : (b : Bool) → has k t ≡ b → Among change (pick b (change_at listed k ∷ changes_below listed t k) (changes_below listed t k))
          → (Among change (changes_below listed t k) → Named listed t k change) → Named listed t (suc k) change
      go true e (inl is) f = record { place = k; below = omega arith; there = e; is = is }
      go true e (inr j) f = named_more k (f j)
      go false e j f = named_more k (f j)

  pub named_in : (k place : ℕ) → place < k → has place t ≡ true → change ≡ change_at listed place → Among change (changes_below listed t k)
  unfolding changes_below
  named_in zero place l h e = absurd (lt_irrefl 0 (omega arith))
  named_in (suc k) place l h e =
      ⊎_elim here (λ m. keeps (has k t) (named_in k place m h e)) (eq-or-lt_of_le (le_of_suc-le-suc l))
    where
      keeps : (b : Bool) → Among change (changes_below listed t k)
          → Among change (pick b (change_at listed k ∷ changes_below listed t k) (changes_below listed t k))
      keeps true i = inr i
      keeps false i = i

      starts : (b : Bool) → b ≡ true → change ≡ change_at listed k
          → Among change (pick b (change_at listed k ∷ changes_below listed t k) (changes_below listed t k))
      starts true p q = inl q
      starts false p q = absurd (false≢true p)

      here : place ≡ k → Among change (changes_below listed t (suc k))
      here p = starts (has k t) (rw p at h) (rw p at e)

-- ---- It stays the same while further changes are listed

pub changes-same : (before after : Listed) (t k : ℕ) → ((j : ℕ) → j < k → has j t ≡ true → change_at before j ≡ change_at after j)
    → changes_below before t k ≡ changes_below after t k
unfolding changes_below
changes-same before after t zero h = refl
changes-same before after t (suc k) h =
    go (has k t) (h k (omega arith)) (changes-same before after t k (λ j l. h j (omega arith)))
  where
    go : (b : Bool) → (b ≡ true → change_at before k ≡ change_at after k) → changes_below before t k ≡ changes_below after t k
        → pick b (change_at before k ∷ changes_below before t k) (changes_below before t k)
        ≡ pick b (change_at after k ∷ changes_below after t k) (changes_below after t k)
    go true f e = ap₂ (λ (u : Config) (l : List Config). u ∷ l) (f refl) e
    go false f e = e

-- ---- Joining it

joined-below : (listed : Listed) (c : Config) (t k : ℕ)
    → join_all joined_configs c (changes_below listed t k) ≡ times (join_change listed t) k c
unfolding join_all changes_below times
joined-below listed c t zero = refl
joined-below listed c t (suc k) = go (has k t) (joined-below listed c t k)
  where
    go : (b : Bool) → join_all joined_configs c (changes_below listed t k) ≡ times (join_change listed t) k c
        → join_all joined_configs c (pick b (change_at listed k ∷ changes_below listed t k) (changes_below listed t k))
        ≡ pick b (join_configs (times (join_change listed t) k c) (change_at listed k)) (times (join_change listed t) k c)
    go true e =
        ap (join_configs (change_at listed k)) e ∙ configs-joined.comm (change_at listed k) (times (join_change listed t) k c)
    go false e = e

pub joined_as : (listed : Listed) (c : Config) (t : ℕ) → join_all joined_configs c (as_changes listed t) ≡ joined_with listed c t
unfolding joined_with
joined_as listed c t = joined-below listed c t 6

-- ---- Testing every subset of places is enough

-- a change is among some
unfoldable is_among : Config → List Config → Bool
is_among change [] = false
is_among change (x ∷ l) = pick (same_config change x) true (is_among change l)

among-is : (change : Config) (l : List Config) → is_among change l ≡ true → Among change l
unfolding is_among
among-is change [] h = absurd (false≢true h)
among-is change (x ∷ l) h = go (same_config change x) refl h (among-is change l)
  where
    go : (b : Bool) → same_config change x ≡ b → pick b true (is_among change l) ≡ true → (is_among change l ≡ true → Among change l)
        → Among change (x ∷ l)
    go true e i f = inl (configs-decided.same_eq change x e)
    go false e i f = inr (f i)

is_among_lem : (change : Config) (l : List Config) → Among change l → is_among change l ≡ true
unfolding is_among
is_among_lem change [] i = absurd i
is_among_lem change (x ∷ l) (inl e) = rw (configs-decided.eq_same change x e)
is_among_lem change (x ∷ l) (inr i) = go (same_config change x) (is_among_lem change l i)
  where
    go : (b : Bool) → is_among change l ≡ true → pick b true (is_among change l) ≡ true
    go true e = refl
    go false e = e

-- two lists with the same changes join to the same configuration
join-all-same : (c : Config) (l m : List Config) → ((u : Config) → Among u l → Among u m) → ((u : Config) → Among u m → Among u l)
    → join_all joined_configs c l ≡ join_all joined_configs c m
join-all-same c l m to back =
    at-most-antisymm (half l m to) (half m l back)
  where
    half : (l m : List Config) → ((u : Config) → Among u l → Among u m) → AtMost joined_configs (join_all joined_configs c l) (join_all joined_configs c m)
    half l m f =
        join-all-least joined_configs c l (join_all joined_configs c m) (join-all-base joined_configs c m)
        (λ u i. join-all-change joined_configs c m u (f u i))

module _ (listed : Listed) (t : ℕ) (chosen : List Config) where
  chooses : ℕ → Bool
  chooses k = both (has k t) (is_among (change_at listed k) chosen)

  -- the places of the chosen changes
  places : ℕ
  places = those 6 chooses

  places-inside : inside places t ≡ true
  unfolding places chooses
  places-inside =
      has-inside places t (λ k h. has-digit k t (both_left (has k t) (is_among (change_at listed k) chosen) (in-those 6 chooses k h).1))

  places-to : (u : Config) → Among u (as_changes listed places) → Among u chosen
  unfolding places chooses
  places-to u i =
      let n = in-named listed places u 6 i in
      let p = (in-those 6 chooses n.place (has-digit n.place places n.there)).1 in
      rw n.is (among-is (change_at listed n.place) chosen (both_right (has n.place t) (is_among (change_at listed n.place) chosen) p))

  places-back : ((u : Config) → Among u chosen → Among u (as_changes listed t)) → (u : Config) → Among u chosen → Among u (as_changes listed places)
  unfolding places chooses
  places-back within u i =
      let n = in-named listed t u 6 (within u i) in
      let c : chooses n.place ≡ true = both-on (has n.place t) (is_among (change_at listed n.place) chosen) n.there
      (is_among_lem (change_at listed n.place) chosen (rw n.is at i)) in
      named_in listed places u 6 n.place n.below (digit-has n.place places (those-has 6 chooses n.place n.below c)) n.is

-- where every queried configuration of the rules has a majority, every one that the argument queries has a quorum
pub allowed-as : (listed : Listed) (t answered : ℕ) (x : AbstractContents parlour) → x.changes ≡ as_changes listed t
    → every_majority listed x.committed.configuration t answered ≡ true → Allowed x answered
unfolding places
allowed-as listed t answered x e h w q = subst (λ (c : Config). has_majority c answered ≡ true) same
    (majority-at listed x.committed.configuration t answered h mask (those-lt 6 (chooses listed t q.subset)) (places-inside listed t q.subset))
  where
    mask : ℕ
    mask = places listed t q.subset

    same : joined_with listed x.committed.configuration mask ≡ w
    same =
        sym (joined_as listed x.committed.configuration mask)
        ∙ join-all-same x.committed.configuration (as_changes listed mask) q.subset (places-to listed t q.subset)
        (places-back listed t q.subset (λ u i. rw e at (q.within u i)))
        ∙ q.joined
