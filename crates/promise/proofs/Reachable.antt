-- The kept join of specs/Reachable, proved: each step joins what its answer hands back.
use Rattle.std.specs.Prelude.{Ok, Err}
use mathlib.Core.List.{[], ◌∷◌}
use mathlib.Core.Path.{◌≡◌, refl, ap, ◌∙◌}
use Rattle.books.specs.declared.Book.{Book}
use Rattle.devices.specs.declared.Accepted.TheVariants.{Done, Round, Committed, Adopted}
use Rattle.devices.specs.Effects.{Outcome, answer_of, kept_after}
use Rattle.state.specs.State.{fresh}
use Rattle.parlour.specs.Steps.{applied, taken_if, taken}
use Rattle.promise.specs.Promise.{after, history}
use Rattle.promise.specs.Reachable.{joined_back, all_handed_back, KeptJoin}

-- what an outcome makes of the kept join is what its answer hands back, joined
kept-told : (o : Outcome) (kept : Book) → kept_after o kept ≡ joined_back kept (answer_of o)
kept-told (Ok Done) kept = refl
kept-told (Ok (Round n)) kept = refl
kept-told (Ok (Committed b)) kept = refl
kept-told (Ok (Adopted b)) kept = refl
kept-told (Err refusal) kept = refl

pub kept-join : KeptJoin
unfolding after history all_handed_back fresh taken taken_if applied
kept-join first [] = refl
kept-join first (step ∷ earlier) =
    let o = (taken step (after first earlier)).outcome in
    ap (kept_after o) (kept-join first earlier) ∙ kept-told o (all_handed_back first (history first earlier))
