-- What specs/Statements says, proved.
use Prim.Native.Nat.{ℕ}
use mathlib.Core.Bool.{true, false}
use mathlib.Core.Path.{◌≡◌, ap, ◌∙◌}
use native.Mathlib.Nat.{lt_irrefl}
use native.Mathlib.Omega.{arith}
use borrow.Author.Tests.{ne_eqb}
use Rattle.sets.specs.Sets.{digit, has, union, shared}
use Rattle.sets.specs.Majority.{one, majority, majority_of}
use Rattle.sets.proofs.SetLaws.{digit_lt, has-digit, digit-union, digit-members}
use Rattle.sets.proofs.MajorityLaws.{no-members-no-majority, members_only}
use Rattle.books.specs.declared.Config.{Config}
use Rattle.books.specs.Books.{members_of, join_configs, has_majority}
use Rattle.books.specs.Statements.{Statements}
use Rattle.books.proofs.NoteLaws.{set-notes, note-joined, notes-contained, notes-inside, own_at, own-note}

never_returns : (c d : Config) (box : ℕ) → has box c.removed ≡ true → has box (members_of (join_configs c d)) ≡ false
never_returns c d box h =
    let added = union c.added d.added in
    ne_eqb (digit box (members_of (join_configs c d))) 1
    (λ e.
    lt_irrefl 0
    (omega (
      arith,
      has-digit box c.removed h,
      digit-members box added (union c.removed d.removed),
      digit-union box c.removed d.removed,
      digit_lt box added,
    )))

no_members : (c : Config) (answered : ℕ) → members_of c ≡ 0 → has_majority c answered ≡ false
unfolding majority_of
no_members c answered e = ap (λ (boxes : ℕ). majority one boxes answered) e ∙ no-members-no-majority one answered

only_members : (c : Config) (answered : ℕ) → has_majority c answered ≡ has_majority c (shared (members_of c) answered)
unfolding majority_of
only_members c answered = members_only one (members_of c) answered

pub statements : Statements
statements =
    record {
      weights = set-notes;
      joined = note-joined;
      contained = notes-contained;
      each_contained = notes-inside;
      own_notes_lem = own_at;
      owned = own-note;
      never_returns = never_returns;
      no_members = no_members;
      only_members = only_members;
    }
