-- What each device keeps, and merging (01, "What each device keeps"; Figure 2, local variables and lines 18 to 20).
use Rattle.std.specs.Prelude.{ℕ}
use Rattle.sets.specs.Sets.{union}
use Rattle.books.specs.declared.Book.{Book}
use Rattle.books.specs.declared.Listed.{Listed}
use Rattle.books.specs.Books.{no_notes, join_notes, join_configs, join_books}
use Rattle.books.specs.Queried.{outside}
use Rattle.devices.specs.declared.Contents.{Contents}
use Rattle.devices.specs.declared.Tablet.{Tablet}
use Rattle.devices.specs.declared.Phase.TheVariants.{Idle}

-- "Fresh: v is no notes and the first boxes, candidates empty, T empty"
abbrev pub fresh_contents : ℕ → Contents
fresh_contents first =
    record { v = record { notes = no_notes; config = record { added = first; removed = 0 } }; candidates = no_notes; t = 0 }

-- "a tablet is idle in round 0"
abbrev pub fresh_tablet : Tablet
fresh_tablet = record { round = 0; phase = Idle }

-- "v joins the incoming v, candidates join, T becomes all of both sets not contained in the new v's configuration" (lines 18, 19, 20)
unfoldable pub merged : Listed → Contents → Contents → Contents
merged listed mine theirs =
    record {
      v = join_books mine.v theirs.v;
      candidates = join_notes mine.candidates theirs.candidates;
      t = outside listed (join_configs mine.v.config theirs.v.config) (union mine.t theirs.t);
    }

-- "A commit of book B merges as v = B, candidates = B's notes, no changes" (line 13)
abbrev pub brought_by : Book → Contents
brought_by book = record { v = book; candidates = book.notes; t = 0 }
