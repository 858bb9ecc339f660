-- The order of 001's Property 5.1 on what a device keeps: a merge is above both sides (Lemma 5.1: `above_mine`, `above_theirs`), and no step takes
-- anything from any device (`step-grows`).
use Prim.Native.Nat.{ℕ, ◌<◌}
use mathlib.Core.Bool.{Bool, true, false}
use mathlib.Core.Path.{◌≡◌, refl}
use mathlib.Core.Logic.{◌⊎◌, inl, inr}
use Rattle.sets.specs.Sets.{digit, has, union}
use Rattle.sets.proofs.SetLaws.{has-digit, digit-has, union-has-left, union-has-right}
use Rattle.sets.specs.Semilattice.{contained-refl, contained-trans, contained-left, contained-right}
use Rattle.books.specs.declared.Config.{Config}
use Rattle.books.specs.declared.Listed.{Listed}
use Rattle.books.specs.Books.{notes_inside, config_inside, book_inside, join_notes, join_configs, join_books}
use Rattle.books.specs.Queried.{change_at, outside}
use Rattle.books.proofs.NoteLaws.{notes-joined}
use Rattle.books.proofs.BookLaws.{configs-joined, books-joined, book-parts-inside}
use Rattle.books.proofs.QueriedLaws.{outside-has}
use Rattle.devices.specs.declared.Contents.{Contents}
use Rattle.devices.specs.declared.Message.{Message}
use Rattle.devices.specs.declared.Here.{Here}
use Rattle.devices.specs.declared.Effect.{Effect}
use Rattle.devices.specs.declared.Step.{Step}
use Rattle.devices.specs.Contents.{fresh_contents, merged}
use Rattle.devices.specs.Effects.{refuse}
use Rattle.state.specs.declared.Run.{Run}
use Rattle.state.proofs.SlotLaws.{replaced-at}
use Rattle.parlour.specs.Steps.{here_at, applied, taken_if, taken}
use Rattle.parlour.specs.Statements.{device_at, Grown}
use Rattle.parlour.proofs.Acts.{Acts, refused, asks, hears_request, hears_answer, hears_commit, goes_on, commits, adopts, changes_none, device_for, here_for, effect_for, acts-for}

-- ---- The order

pub below-same : (listed : Listed) (c : Contents) → Grown listed c c
below-same listed c =
    record { v = contained-refl books-joined c.v; candidates = contained-refl notes-joined c.candidates; changes = λ k l h. inl h }

pub below-through : (listed : Listed) (a b c : Contents) → Grown listed a b → Grown listed b c → Grown listed a c
below-through listed a b c p q =
    record {
      v = contained-trans books-joined a.v b.v c.v p.v q.v;
      candidates = contained-trans notes-joined a.candidates b.candidates c.candidates p.candidates q.candidates;
      changes = λ k l h. go k l (p.changes k l h);
    }
  where
    go : (k : ℕ) → k < 6 → (has k b.t ≡ true) ⊎ (config_inside (change_at listed k) b.v.config ≡ true)
        → (has k c.t ≡ true) ⊎ (config_inside (change_at listed k) c.v.config ≡ true)
    go k l (inl h) = q.changes k l h
    go k l (inr i) =
        inr (contained-trans configs-joined (change_at listed k) b.v.config c.v.config i (book-parts-inside b.v c.v q.v).1)

-- ---- Merging (Lemma 5.1)

module _ (listed : Listed) (mine theirs : Contents) where
  -- above each side whose v, candidates and T are contained in the joins
  above-side : (side : Contents) → book_inside side.v (join_books mine.v theirs.v) ≡ true
      → notes_inside side.candidates (join_notes mine.candidates theirs.candidates) ≡ true
      → ((k : ℕ) → digit k side.t ≡ 1 → digit k (union mine.t theirs.t) ≡ 1) → Grown listed side (merged listed mine theirs)
  unfolding merged
  above-side side v candidates t =
      record { v = v; candidates = candidates; changes = λ k l h. go k l (t k (has-digit k side.t h)) (config_inside (change_at listed k) config) refl }
    where
      config : Config
      config = join_configs mine.v.config theirs.v.config

      go : (k : ℕ) → k < 6 → digit k (union mine.t theirs.t) ≡ 1 → (b : Bool) → config_inside (change_at listed k) config ≡ b
          → (has k (outside listed config (union mine.t theirs.t)) ≡ true) ⊎ (config_inside (change_at listed k) config ≡ true)
      go k l h true e = inr e
      go k l h false e = inl (digit-has k _ (outside-has listed config (union mine.t theirs.t) k l h e))

  pub above_mine : Grown listed mine (merged listed mine theirs)
  above_mine =
      above-side mine (contained-left books-joined mine.v theirs.v) (contained-left notes-joined mine.candidates theirs.candidates)
      (λ k. union-has-left k mine.t theirs.t)

  pub above_theirs : Grown listed theirs (merged listed mine theirs)
  above_theirs =
      above-side theirs (contained-right books-joined mine.v theirs.v) (contained-right notes-joined mine.candidates theirs.candidates)
      (λ k. union-has-right k mine.t theirs.t)

-- ---- Steps

acts-grow : {known : Bool} (h : Here) {step : Step} {m : Message} {e : Effect} → Acts known h step m e → Grown e.listed h.contents e.contents
unfolding refuse
acts-grow h (refused step m n b) = below-same _ _
acts-grow h (asks tablet own pair m listed named l i r n) = above_mine listed h.contents _
acts-grow h (hears_request slot l) = above_mine h.listed h.contents _
acts-grow h (hears_answer slot l) = above_mine h.listed h.contents _
acts-grow h (hears_commit slot n) = above_mine h.listed h.contents _
acts-grow h (goes_on tablet m a floor l i r f) = below-same _ _
acts-grow h (commits tablet m a l i x y z) = below-same _ _
acts-grow h (adopts tablet m a floor l i f x) = below-same _ _
acts-grow h (changes_none step m frees stops sending i f g c) = below-same _ _

pub step-grows : (step : Step) (r : Run) (q : ℕ) → Grown (taken step r).run.listed (device_at q r) (device_at q (taken step r).run)
unfolding taken taken_if applied here_at
step-grows step r q =
    let e = effect_for step r in
    replaced-at (Grown e.listed) (below-same e.listed) (fresh_contents 0) r.devices (device_for step r) e.contents
    (acts-grow (here_for step r) (acts-for step r)) q
