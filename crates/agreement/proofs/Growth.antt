-- What a tablet knows stays true while others act, and while its own contents grow.
--   tablet-grows     chain, answers and boxes grow, and nobody else asks in the tablet's name
--   contents_grow    the tablet's contents grow in ⊑*
--   invariant-at     the invariant of the next state from its parts
use Rattle.std.specs.Prelude.{Option, Some, None}
use Prim.Native.Nat.{ℕ, ◌≤◌}
use mathlib.Core.Path.{◌≡◌}
use mathlib.Core.Logic.{◌⊎◌, inl, inr}
use mathlib.Core.List.{List}
use Rattle.agreement.specs.Lattice.{Among}
use Rattle.agreement.specs.Setting.{Setting, Book, Contents, Below}
use Rattle.agreement.specs.State.{Phase, idle, asking, TabletState, Request, Answer, Network, Handed, State}
use Rattle.agreement.proofs.Order.{contained-trans}
use Rattle.agreement.proofs.Below.{below-refl, below-trans, decide-monotone}
use Rattle.agreement.proofs.Frames.{Every}
use Rattle.agreement.proofs.Merging.{held_more}
use Rattle.agreement.proofs.Invariant.{GoodNetwork, HeardFrom, FloorFits, SinceAsk, GoodPhase, GoodTablet, GoodHanded, Invariant}

module _ {𝓢 : Setting} where
  -- ---- Others act
  -- From chain l and network n to l' and n', as tablet p sees it. A new answer is above what its box kept.
  pub record Grows (p : 𝓢.Tablet) (l : List (Contents 𝓢)) (n : Network 𝓢) (l' : List (Contents 𝓢)) (n' : Network 𝓢) : Type 0 where
    pub elements : (z : Contents 𝓢) → Among z l → Among z l'
    pub old_answers : (x : Answer 𝓢) → Among x n.answers → Among x n'.answers
    pub new_answers : (x : Answer 𝓢) → Among x n'.answers → Among x n.answers ⊎ Below (n.boxes x.box) x.contents
    pub requests : (q : Request 𝓢) → Among q n'.requests → q.tablet ≡ p → Among q n.requests
    pub boxes : (r : 𝓢.Box) → Below (n.boxes r) (n'.boxes r)

  history-grows : {f : Contents 𝓢} {p : 𝓢.Tablet} {l l' : List (Contents 𝓢)} {n n' : Network 𝓢} {k : ℕ} {shown : List (Book 𝓢)}
      → Grows p l n l' n' → SinceAsk f l n.boxes n.answers p k shown → SinceAsk f l' n'.boxes n'.answers p k shown
  history-grows {f} {p} {l} {l'} {n} {n'} {k} g h = record {
    snapshot = h.snapshot;
    elements = h.elements;
    chain = h.chain;
    still = λ z m. g.elements z (h.still z m);
    all_shown = h.all_shown;
    grown = λ r. below-trans (h.grown r) (g.boxes r);
    later = λ a i e c. go a e c (g.new_answers a i);
  }
    where
      go : (a : Answer 𝓢) → a.tablet ≡ p → k ≤ a.round → Among a n.answers ⊎ Below (n.boxes a.box) a.contents
          → Below (h.snapshot a.box) a.contents
      go a e c (inl i) = h.later a i e c
      go a e c (inr b) = below-trans (h.grown a.box) b

  heard-grows : {answers answers' : List (Answer 𝓢)} {p : 𝓢.Tablet} {x x' : Contents 𝓢} {k : ℕ} {r : 𝓢.Box}
      → ((a : Answer 𝓢) → Among a answers → Among a answers') → Below x x' → HeardFrom answers p x k r → HeardFrom answers' p x' k r
  heard-grows g b e = record {
    answer = e.answer;
    among = g e.answer e.among;
    box = e.box;
    tablet = e.tablet;
    round = e.round;
    below = below-trans e.below b;
  }

  phase-grows : (f : Contents 𝓢) {p : 𝓢.Tablet} {l l' : List (Contents 𝓢)} {n n' : Network 𝓢} → Grows p l n l' n'
      → (x : Contents 𝓢) (k : ℕ) (phase : Phase 𝓢) → GoodPhase f l n p x k phase → GoodPhase f l' n' p x k phase
  phase-grows f g x k idle h = tt
  phase-grows f g x k (asking a) h = record {
    saved = λ q m e. h.saved q (g.requests q m e) e;
    heard = λ r i. heard-grows g.old_answers below-refl (h.heard r i);
    since = h.since;
    history = history-grows g h.history;
    own = h.own;
    floor = h.floor;
  }

  pub tablet-grows : {f : Contents 𝓢} {p : 𝓢.Tablet} {l l' : List (Contents 𝓢)} {n n' : Network 𝓢} {t : TabletState 𝓢} → Grows p l n l' n'
      → GoodTablet f l n p t → GoodTablet f l' n' p t
  tablet-grows {f} {t = t} g h = record {
    held = held_more g.elements h.held;
    rounds = λ q m e. h.rounds q (g.requests q m e) e;
    phase = phase-grows f g t.contents t.round t.phase h.phase;
  }

  -- ---- Its own contents grow
  floor-grows : (asked : Book 𝓢) (shown : List (Book 𝓢)) {x z : Contents 𝓢} → Below x z → (floor : Option (Book 𝓢))
      → FloorFits asked shown x floor → FloorFits asked shown z floor
  floor-grows asked shown b None h = tt
  floor-grows asked shown b (Some floor) h = record {
    own = h.own;
    all_shown = h.all_shown;
    under = contained-trans h.under (decide-monotone b);
  }

  pub contents_grow : (f : Contents 𝓢) (l : List (Contents 𝓢)) (n : Network 𝓢) (p : 𝓢.Tablet) {x z : Contents 𝓢} (k : ℕ) → Below x z
      → (phase : Phase 𝓢) → GoodPhase f l n p x k phase → GoodPhase f l n p z k phase
  contents_grow f l n p k b idle h = tt
  contents_grow f l n p k b (asking a) h = record {
    saved = h.saved;
    heard = λ r i. heard-grows (λ y m. m) b (h.heard r i);
    since = h.since;
    history = h.history;
    own = contained-trans h.own (decide-monotone b);
    floor = floor-grows a.asked a.shown b a.floor h.floor;
  }

  -- ---- The next state
  pub invariant-at : {f : Contents 𝓢} {s : State 𝓢} (l : List (Contents 𝓢)) {n : Network 𝓢} {handed : List (Handed 𝓢)} → s.network ≡ n
      → s.handed ≡ handed → GoodNetwork f l n → ((p : 𝓢.Tablet) → GoodTablet f l n p (s.tablets p)) → Every (GoodHanded l) handed
      → Invariant f s
  invariant-at l e i N T H = record { elements = l; network = rw e N; tablets = λ p. rw e (T p); handed = λ h m. H h (rw i at m) }
