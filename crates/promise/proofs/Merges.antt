-- A merge of the rules is a merge of the argument (`merged-as`, `told-as`), and so is what an ask brings (`asked-as`).
use Prim.Native.Nat.{ℕ}
use mathlib.Core.Bool.{Bool, true, false}
use mathlib.Core.Path.{◌≡◌, refl, ap, ◌∙◌}
use mathlib.Core.Logic.{◌⊎◌, inl, inr}
use Rattle.sets.specs.Sets.{digit, has, union}
use Rattle.sets.specs.Semilattice.{contained-left, contained-trans}
use Rattle.sets.proofs.SetLaws.{has-digit, digit-has, in-union, union-has-left, union-has-right}
use Rattle.books.specs.declared.Notes.{Notes}
use Rattle.books.specs.declared.Config.{Config}
use Rattle.books.specs.declared.Book.{Book}
use Rattle.books.specs.declared.Listed.{Listed}
use Rattle.books.specs.Books.{config_inside, join_configs}
use Rattle.books.specs.Queried.{change_at, outside}
use Rattle.books.proofs.BookLaws.{configs-joined, books-joined}
use Rattle.books.proofs.QueriedLaws.{in-outside, outside-has}
use Rattle.devices.specs.declared.Contents.{Contents}
use Rattle.devices.specs.Contents.{merged, brought_by}
use Rattle.agreement.specs.Lattice.{AtMost, Among}
use Rattle.agreement.specs.State.{told}
use Rattle.agreement.specs.Steps.{Merged, Asked}
use Rattle.promise.proofs.Reading.{joined_configs, config-at-most, as_book, changes_below, as_changes, as_contents}
use Rattle.promise.proofs.Changes.{Named, in-named, named_in}

-- ---- Unions and trims of sets of changes

module _ (listed : Listed) (change : Config) where
  in-joint : (a b : ℕ) → Among change (as_changes listed (union a b)) → Among change (as_changes listed a) ⊎ Among change (as_changes listed b)
  in-joint a b i = go (in-union n.place a b (has-digit n.place (union a b) n.there))
    where
      n : Named listed (union a b) 6 change
      n = in-named listed (union a b) change 6 i

      go : (digit n.place a ≡ 1) ⊎ (digit n.place b ≡ 1) → Among change (as_changes listed a) ⊎ Among change (as_changes listed b)
      go (inl h) = inl (named_in listed a change 6 n.place n.below (digit-has n.place a h) n.is)
      go (inr h) = inr (named_in listed b change 6 n.place n.below (digit-has n.place b h) n.is)

  joint-left : (a b : ℕ) → Among change (as_changes listed a) → Among change (as_changes listed (union a b))
  joint-left a b i =
      let n = in-named listed a change 6 i in
      named_in listed (union a b) change 6 n.place n.below
      (digit-has n.place (union a b) (union-has-left n.place a b (has-digit n.place a n.there))) n.is

  joint-right : (a b : ℕ) → Among change (as_changes listed b) → Among change (as_changes listed (union a b))
  joint-right a b i =
      let n = in-named listed b change 6 i in
      named_in listed (union a b) change 6 n.place n.below
      (digit-has n.place (union a b) (union-has-right n.place a b (has-digit n.place b n.there))) n.is

  -- what is left of a set was in it
  left_in : (c : Config) (t : ℕ) → Among change (as_changes listed (outside listed c t)) → Among change (as_changes listed t)
  left_in c t i =
      let n = in-named listed (outside listed c t) change 6 i in
      named_in listed t change 6 n.place n.below
      (digit-has n.place t (in-outside listed c t n.place (has-digit n.place (outside listed c t) n.there)).1) n.is

  -- what was in a set is left, or is contained in the configuration
  in_left : (c : Config) (t : ℕ) → Among change (as_changes listed t)
      → AtMost joined_configs change c ⊎ Among change (as_changes listed (outside listed c t))
  in_left c t i = go (config_inside (change_at listed n.place) c) refl
    where
      n : Named listed t 6 change
      n = in-named listed t change 6 i

      go : (b : Bool) → config_inside (change_at listed n.place) c ≡ b
          → AtMost joined_configs change c ⊎ Among change (as_changes listed (outside listed c t))
      go true e = inl (rw n.is (config-at-most e))
      go false e =
          inr (named_in listed (outside listed c t) change 6 n.place n.below
          (digit-has n.place (outside listed c t) (outside-has listed c t n.place n.below (has-digit n.place t n.there) e)) n.is)

-- ---- Merging

pub merged-as : (listed : Listed) (mine theirs : Contents)
    → Merged (as_contents listed mine) (as_contents listed theirs) (as_contents listed (merged listed mine theirs))
unfolding merged
merged-as listed mine theirs =
    record {
      notes = refl;
      configuration = refl;
      candidates = refl;
      from = λ u i. in-joint listed u mine.t theirs.t (left_in listed u config both i);
      left = λ u i. in_left listed u config both (joint-left listed u mine.t theirs.t i);
      right = λ u i. in_left listed u config both (joint-right listed u mine.t theirs.t i);
    }
  where
    config : Config
    config = join_configs mine.v.config theirs.v.config

    both : ℕ
    both = union mine.t theirs.t

-- "A commit of book B merges as v = B, candidates = B's notes, no changes"
pub told-as : (listed : Listed) (b : Book) → as_contents listed (brought_by b) ≡ told (as_book b)
unfolding changes_below
told-as listed b = refl

-- ---- What an ask brings

module _ (listed : Listed) (c : Contents) (notes : Notes) (pair : Config) (named : ℕ)
    -- the set names no other change than the pair
    (only : (k : ℕ) → has k named ≡ true → change_at listed k ≡ pair)
    -- and it names the pair, unless v contains it
    (known : (config_inside pair c.v.config ≡ true) ⊎ Among pair (as_changes listed named)) where
  pub asked-as : Asked (as_contents listed c) (as_book (record { notes = notes; config = pair }))
      (as_contents listed (merged listed c (record { v = c.v; candidates = notes; t = named })))
  unfolding merged
  asked-as =
      record {
        committed = ap as_book (books-joined.idem c.v);
        candidates = refl;
        from = λ u i. from_either u (in-joint listed u c.t named (left_in listed u config both i));
        left = λ u i. in_left listed u config both (joint-left listed u c.t named i);
        right = right known;
      }
    where
      config : Config
      config = join_configs c.v.config c.v.config

      both : ℕ
      both = union c.t named

      from_either : (u : Config) → Among u (as_changes listed c.t) ⊎ Among u (as_changes listed named)
          → Among u (as_changes listed c.t) ⊎ (u ≡ pair)
      from_either u (inl i) = inl i
      from_either u (inr i) = let n = in-named listed named u 6 i in inr (n.is ∙ only n.place n.there)

      right : (config_inside pair c.v.config ≡ true) ⊎ Among pair (as_changes listed named)
          → AtMost joined_configs pair config ⊎ Among pair (as_changes listed (outside listed config both))
      right (inl h) =
          inl (config-at-most (contained-trans configs-joined pair c.v.config config h (contained-left configs-joined c.v.config c.v.config)))
      right (inr i) = in_left listed pair config both (joint-right listed pair c.t named i)
