-- Laws of configurations and books, beside those of joining (specs/Joined): a book is contained where its parts are, the test of equal
-- configurations decides, and two majorities of one configuration share a member (`majorities-share`). Laws of notes are in NoteLaws.
-- What is in a join is said of each set by `digit-union` and `in-union` of `sets`, SetLaws.
use Prim.Native.Nat.{ℕ}
use mathlib.Core.Bool.{true}
use mathlib.Core.Path.{◌≡◌, refl}
use Rattle.sets.specs.Majority.{one, majority_of}
use Rattle.sets.proofs.BoundedLaws.{both_left, both_right, both-on}
use Rattle.sets.proofs.Parts.{Decides, numbers-decided, parts-decided}
use Rattle.sets.proofs.MajorityLaws.{Meet, majorities-meet}
pub use Rattle.books.specs.Joined.{configs-joined, books-joined}
use Rattle.books.specs.declared.Config.{Config}
use Rattle.books.specs.declared.Book.{Book}
use Rattle.books.specs.Books.{notes_inside, config_inside, book_inside, same_config, members_of, has_majority}

-- ---- Containment

-- "One contains another when each of the three sets does"
pub book-parts-inside : (a b : Book) → book_inside a b ≡ true
    → (notes_inside a.notes b.notes ≡ true) × (config_inside a.config b.config ≡ true)
book-parts-inside a b h = (
  both_left (notes_inside a.notes b.notes) (config_inside a.config b.config) h,
  both_right (notes_inside a.notes b.notes) (config_inside a.config b.config) h,
)

pub parts-book-inside : (a b : Book) → notes_inside a.notes b.notes ≡ true → config_inside a.config b.config ≡ true
    → book_inside a b ≡ true
parts-book-inside a b = both-on (notes_inside a.notes b.notes) (config_inside a.config b.config)

-- ---- Equality

pub configs-decided : Decides same_config
configs-decided =
    parts-decided (λ (c : Config). c.added) (λ (c : Config). c.removed) (λ (a b : ℕ). record { added = a; removed = b }) (λ c. refl) numbers-decided
    numbers-decided

-- ---- Majorities of a configuration

pub majorities-share : (c : Config) (a b : ℕ) → has_majority c a ≡ true → has_majority c b ≡ true → Meet 16 (members_of c) a b
unfolding majority_of
majorities-share c a b = majorities-meet one (members_of c) a b
