-- The promise is not empty: one tablet and one box; an ask of a note and a change is heard, answered, counted, and gets its book.
use Prim.Native.Nat.{ℕ, max}
use mathlib.Core.Path.{◌≡◌, refl}
use mathlib.Core.Logic.{inl, inr}
use mathlib.Core.List.{[], ◌∷◌}
use mathlib.Core.Bool.{Bool, true, false, false≢true}
use native.Mathlib.Omega.{arith}
use native.Mathlib.Decide.{ℕ_discrete}
use Rattle.agreement.specs.Lattice.{Semilattice, Among}
use Rattle.agreement.specs.Setting.{Setting, Book, Contents, decide}
use Rattle.agreement.specs.State.{Asking, idle, asking, Request, Answer, State, told, Fresh}
use Rattle.agreement.specs.Steps.{OnTablet, with_request, with_answer, with_boxes, with_commit, began, gets, Step, ask, box_hears_request, tablet_counts, commits, Run, start, next}
use Rattle.agreement.proofs.Changes.{decide-at-most, join_all, Parts, setting}

-- Numbers, the larger of two being their join.
unfoldable larger : Semilattice ℕ
larger = record { join = max; associative = λ a b c. omega arith; commutative = λ a b. omega arith; idempotent = λ a. omega arith }

-- One tablet, one box; a set of boxes says whether the box is in it, and is a quorum if it is.
abbrev parts : Parts
parts = record {
  Tablet = Unit {0};
  Box = Unit {0};
  Notes = ℕ;
  notes = larger;
  Configuration = ℕ;
  configurations = larger;
  at-most? = decide-at-most ℕ_discrete larger;
  Boxes = Bool;
  BoxIn = λ r A. A ≡ true;
  Quorum = λ c A. A ≡ true;
  quorums_meet = λ c A B p q. (tt, p, q);
}

abbrev 𝓢 : Setting
𝓢 = setting parts

abbrev first : Book 𝓢
first = record { notes = 0; configuration = 0 }

abbrev brought : Book 𝓢
brought = record { notes = 1; configuration = 5 }

-- What both keep once they know of the ask.
abbrev full : Contents 𝓢
full = record { committed = first; candidates = 1; changes = 5 ∷ [] }

abbrev pending : Bool → Asking 𝓢
pending answered = began full answered brought 1 []

abbrev request : Request 𝓢
request = record { tablet = tt; round = 1; contents = full }

abbrev answer : Answer 𝓢
answer = record { box = tt; tablet = tt; round = 1; contents = full }

-- ---- The five states
abbrev fresh : State 𝓢
fresh = record {
  tablets = λ p. record { contents = told first; round = 0; phase = idle };
  network = record { boxes = λ r. told first; requests = []; answers = []; commits = [] };
  handed = [];
  asks = [];
}

abbrev asked : State 𝓢
asked = record {
  tablets = λ p. record { contents = full; round = 1; phase = asking (pending false) };
  network = with_request fresh.network request;
  handed = [];
  asks = brought ∷ [];
}

abbrev heard : State 𝓢
heard = record {
  tablets = asked.tablets;
  network = with_answer (with_boxes asked.network (λ r. full)) answer;
  handed = [];
  asks = brought ∷ [];
}

abbrev counted : State 𝓢
counted = record {
  tablets = λ p. record { contents = full; round = 1; phase = asking (pending true) };
  network = heard.network;
  handed = [];
  asks = brought ∷ [];
}

abbrev committed : State 𝓢
committed = record {
  tablets = λ p. record { contents = full; round = 1; phase = idle };
  network = with_commit heard.network (decide full);
  handed = gets (pending true) (decide full) ∷ [];
  asks = brought ∷ [];
}

-- ---- The four steps
moves : {s s' : State 𝓢} → OnTablet s s' tt (s.tablets tt) (s'.tablets tt)
moves = record { was = refl; now = refl; others = λ q. inl refl }

only-five : (u : ℕ) → Among u (5 ∷ []) → u ≡ 5
only-five u (inl e) = e
only-five u (inr m) = absurd m

step-ask : Step fresh asked
unfolding larger
step-ask = ask (record {
  tablet = tt;
  round = 0;
  before = told first;
  brought = brought;
  after = full;
  merge = record { committed = refl; candidates = refl; from = λ u i. inr (only-five u i); left = λ u i. absurd i; right = inr (inl refl) };
  answered = false;
  none_answered = λ r e. false≢true e;
  moves = moves;
  network = refl;
  handed = refl;
  asks = refl;
})

step-hear : Step asked heard
unfolding larger
step-hear = box_hears_request (record {
  box = tt;
  request = request;
  sent = inl refl;
  after = full;
  merge = record { notes = refl; configuration = refl; candidates = refl; from = λ u i. inr i; left = λ u i. absurd i; right = λ u i. inr i };
  boxes' = λ r. full;
  boxes = record { now = refl; others = λ q. inl refl };
  network = refl;
  tablets = λ p. refl;
  handed = refl;
  asks = refl;
})

step_count : Step heard counted
unfolding larger
step_count = tablet_counts (record {
  tablet = tt;
  round = 1;
  pending = pending false;
  before = full;
  answer = answer;
  sent = inl refl;
  own = refl;
  current = refl;
  after = full;
  merge = record { notes = refl; configuration = refl; candidates = refl; from = λ u i. inr i; left = λ u i. inr i; right = λ u i. inr i };
  answered = true;
  marks = λ r i. inr refl;
  moves = moves;
  network = refl;
  handed = refl;
  asks = refl;
})

step-commit : Step counted committed
step-commit = commits (record {
  tablet = tt;
  round = 1;
  pending = pending true;
  contents = full;
  allowed = λ w q. refl;
  steady = record { configuration = refl; to = λ u i. i; back = λ u i. i };
  candidates = refl;
  moves = moves;
  network = refl;
  handed = refl;
  asks = refl;
})

-- The book handed back is the note and the change.
example : (s : State 𝓢) × Run first s × (s.handed ≡ record { book = brought; asked = brought; shown = [] } ∷ [])
unfolding join_all larger
example = (committed, next (next (next (next (start begin) step-ask) step-hear) step_count) step-commit, refl)
  where
    begin : Fresh first fresh
    begin = record {
      tablets = λ p. refl;
      boxes = λ r. refl;
      no_requests = refl;
      no_answers = refl;
      no_commits = refl;
      no_handed = refl;
      no_asks = refl;
    }
