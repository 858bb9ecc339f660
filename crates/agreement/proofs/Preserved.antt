-- Every state that a run reaches has the invariant.
use mathlib.Core.Path.{◌≡◌, refl, sym}
use mathlib.Core.Logic.{inl}
use mathlib.Core.List.{[], ◌∷◌}
use Rattle.agreement.specs.Setting.{Setting, Book, Contents, decide}
use Rattle.agreement.specs.State.{State, told, Fresh}
use Rattle.agreement.specs.Steps.{Step, ask, box_hears_request, box_hears_commit, tablet_hears, tablet_counts, next_round, commits, adopts, Run, start, next}
use Rattle.agreement.proofs.Below.{joined-none}
use Rattle.agreement.proofs.Chain.{root}
use Rattle.agreement.proofs.Merging.{Held, told-held}
use Rattle.agreement.proofs.Invariant.{GoodNetwork, GoodTablet, Invariant}
use Rattle.agreement.proofs.Delivered.{keeps-box-hears-request, keeps-box-hears-commit, keeps-tablet-hears, keeps-tablet-counts}
use Rattle.agreement.proofs.Advanced.{keeps-ask, keeps-next-round, keeps-commits, keeps-adopts}

module _ {𝓢 : Setting} where
  keeps : {f : Contents 𝓢} {s s' : State 𝓢} → Invariant f s → Step s s' → Invariant f s'
  keeps I (ask st) = keeps-ask I st
  keeps I (box_hears_request st) = keeps-box-hears-request I st
  keeps I (box_hears_commit st) = keeps-box-hears-commit I st
  keeps I (tablet_hears st) = keeps-tablet-hears I st
  keeps I (tablet_counts st) = keeps-tablet-counts I st
  keeps I (next_round st) = keeps-next-round I st
  keeps I (commits st) = keeps-commits I st
  keeps I (adopts st) = keeps-adopts I st

  -- Fresh: the chain is the first book alone.
  fresh-has : {first : Book 𝓢} {s : State 𝓢} → Fresh first s → Invariant (told first) s
  fresh-has {first} {s} F = record {
    elements = told first ∷ [];
    network = network';
    tablets = tablets';
    handed = λ h m. absurd (rw F.no_handed at m);
  }
    where
      same : first ≡ decide (told first)
      same = λ i. record { notes = first.notes; configuration = sym (joined-none 𝓢 first.configuration) i }

      held : Held (told first ∷ []) (told first)
      held = told-held (record { at = told first; among = inl refl; book = same })

      network' : GoodNetwork (told first) (told first ∷ []) s.network
      network' = record {
        chain = root;
        boxes = λ r. rw (F.boxes r) held;
        requests = λ q m. absurd (rw F.no_requests at m);
        answers = λ x m. absurd (rw F.no_answers at m);
        ordered = λ x y m n e. absurd (rw F.no_answers at m);
        commits = λ b m. absurd (rw F.no_commits at m);
      }

      tablets' : (p : 𝓢.Tablet) → GoodTablet (told first) (told first ∷ []) s.network p (s.tablets p)
      tablets' p = rw (F.tablets p) (record { held = held; rounds = λ q m e. absurd (rw F.no_requests at m); phase = tt })

  pub reached_has : {first : Book 𝓢} {s : State 𝓢} → Run first s → Invariant (told first) s
  reached_has (start F) = fresh-has F
  reached_has (next r st) = keeps (reached_has r) st
