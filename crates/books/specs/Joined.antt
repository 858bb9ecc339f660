-- Notes, configurations and books are joined set by set, and so as sets are (sets, specs/Joined).
use Rattle.std.specs.Prelude.{ℕ, refl}
use Rattle.sets.specs.Semilattice.{Semilattice}
use Rattle.sets.specs.Joined.{sets-joined, parts-joined}
use Rattle.books.specs.declared.Notes.{Notes}
use Rattle.books.specs.declared.Config.{Config}
use Rattle.books.specs.declared.Book.{Book}
use Rattle.books.specs.Books.{notes_inside, config_inside, book_inside, join_notes, join_configs, join_books}

pub notes-joined : Semilattice notes_inside join_notes
notes-joined =
    parts-joined (λ (n : Notes). n.low) (λ (n : Notes). n.high) (λ (a b : ℕ). record { low = a; high = b }) (λ a b. refl) (λ a b. refl) (λ n. refl)
    sets-joined sets-joined

pub configs-joined : Semilattice config_inside join_configs
configs-joined =
    parts-joined (λ (c : Config). c.added) (λ (c : Config). c.removed) (λ (a b : ℕ). record { added = a; removed = b }) (λ a b. refl) (λ a b. refl)
    (λ c. refl) sets-joined sets-joined

pub books-joined : Semilattice book_inside join_books
books-joined =
    parts-joined (λ (b : Book). b.notes) (λ (b : Book). b.config) (λ (a : Notes) (b : Config). record { notes = a; config = b }) (λ a b. refl)
    (λ a b. refl) (λ b. refl) notes-joined configs-joined
