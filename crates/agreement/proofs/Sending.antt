-- The network stays good when something is sent or a box changes.
--   network-request, network-boxes, network-answer, network-commit   one for each thing that a step does to the network
--   keeps-begins                                                     a tablet that begins a round keeps the invariant: what Ask and NextRound share
use Prim.Native.Nat.{◌≤◌, ◌<◌}
use mathlib.Core.Path.{◌≡◌, refl, sym, ◌∙◌, ap}
use mathlib.Core.Logic.{inl, inr}
use mathlib.Core.List.{List, ◌∷◌}
use native.Mathlib.Omega.{arith}
use Rattle.agreement.specs.Lattice.{Among}
use Rattle.agreement.specs.Setting.{Setting, Contents, Contained, decide, Below}
use Rattle.agreement.specs.State.{Asking, asking, TabletState, Request, Answer, Network, State}
use Rattle.agreement.specs.Steps.{OnTablet, with_request, with_answer, with_commit, with_boxes}
use Rattle.agreement.proofs.Below.{below-refl, below-trans}
use Rattle.agreement.proofs.Frames.{every-cons, on-tablet}
use Rattle.agreement.proofs.Chain.{chain-map}
use Rattle.agreement.proofs.Insertion.{Extended}
use Rattle.agreement.proofs.Merging.{OnChain, Held, on-chain-more, held_more}
use Rattle.agreement.proofs.Evidence.{CommitEvidence, Ordered, evidence-more}
use Rattle.agreement.proofs.Invariant.{GoodAnswer, GoodNetwork, FloorFits, SinceAsk, GoodAsking, GoodTablet, Invariant}
use Rattle.agreement.proofs.Growth.{Grows, tablet-grows, invariant-at}

module _ {𝓢 : Setting} where
  -- An answer stays good while the chain, the requests and its box grow.
  answer-more : {l l' : List (Contents 𝓢)} {requests requests' : List (Request 𝓢)} {boxes boxes' : 𝓢.Box → Contents 𝓢} {x : Answer 𝓢}
      → ((z : Contents 𝓢) → Among z l → Among z l') → ((q : Request 𝓢) → Among q requests → Among q requests')
      → ((r : 𝓢.Box) → Below (boxes r) (boxes' r)) → GoodAnswer l requests boxes x → GoodAnswer l' requests' boxes' x
  answer-more {x = x} g h k a = record {
    held = held_more g a.held;
    request = a.request;
    among = h a.request a.among;
    tablet = a.tablet;
    round = a.round;
    lower = a.lower;
    upper = below-trans a.upper (k x.box);
  }

  network-request : {f : Contents 𝓢} {l : List (Contents 𝓢)} {n : Network 𝓢} → GoodNetwork f l n → (q : Request 𝓢)
      → Held l q.contents → GoodNetwork f l (with_request n q)
  network-request {f} {l} {n} N q h = record {
    chain = N.chain;
    boxes = N.boxes;
    requests = every-cons (λ (y : Request 𝓢). Held l y.contents) q n.requests h N.requests;
    answers = λ x m. answer-more (λ z i. i) (λ y i. inr i) (λ r. below-refl) (N.answers x m);
    ordered = N.ordered;
    commits = N.commits;
  }

  pub network-boxes : {f : Contents 𝓢} {l : List (Contents 𝓢)} {n : Network 𝓢} → GoodNetwork f l n → (boxes : 𝓢.Box → Contents 𝓢)
      → ((r : 𝓢.Box) → Held l (boxes r)) → ((r : 𝓢.Box) → Below (n.boxes r) (boxes r)) → GoodNetwork f l (with_boxes n boxes)
  network-boxes N boxes h g = record {
    chain = N.chain;
    boxes = h;
    requests = N.requests;
    answers = λ x m. answer-more (λ z i. i) (λ y i. i) g (N.answers x m);
    ordered = N.ordered;
    commits = N.commits;
  }

  -- A box sends what it keeps, in answer to q.
  pub network-answer : {f : Contents 𝓢} {l : List (Contents 𝓢)} {n : Network 𝓢} → GoodNetwork f l n → (x : Answer 𝓢)
      → n.boxes x.box ≡ x.contents → (q : Request 𝓢) → Among q n.requests → q.tablet ≡ x.tablet → q.round ≡ x.round
      → Below q.contents x.contents → GoodNetwork f l (with_answer n x)
  network-answer {f} {l} {n} N x e q among tablet round lower = record {
    chain = chain-map (evidence-more (λ y m. inr m)) N.chain;
    boxes = N.boxes;
    requests = N.requests;
    answers = every-cons (GoodAnswer l n.requests n.boxes) x n.answers good N.answers;
    ordered = ordered';
    commits = N.commits;
  }
    where
      good : GoodAnswer l n.requests n.boxes x
      good = record {
        held = rw (← e) (N.boxes x.box);
        request = q;
        among = among;
        tablet = tablet;
        round = round;
        lower = lower;
        upper = rw e below-refl;
      }

      under : (y : Answer 𝓢) → Among y n.answers → y.box ≡ x.box → Below y.contents x.contents
      under y m i = rw e at (rw i at (N.answers y m).upper)

      ordered' : Ordered (x ∷ n.answers)
      ordered' y z (inl i) (inl j) c = inl (rw (i, j) below-refl)
      ordered' y z (inl i) (inr m) c = inr (rw i (under z m (sym c ∙ ap (λ (w : Answer 𝓢). w.box) i)))
      ordered' y z (inr m) (inl j) c = inl (rw j (under y m (c ∙ ap (λ (w : Answer 𝓢). w.box) j)))
      ordered' y z (inr m) (inr k) c = N.ordered y z m k c

  -- A commit is sent, and stands in the chain.
  pub network-commit : {f : Contents 𝓢} {l : List (Contents 𝓢)} {n : Network 𝓢} {x : Contents 𝓢} → GoodNetwork f l n
      → (G : Extended f (CommitEvidence n.answers) x l) → GoodNetwork f G.out (with_commit n (decide x))
  network-commit {f} {l} {n} {x} N G = record {
    chain = G.chain;
    boxes = λ r. held_more more (N.boxes r);
    requests = λ q m. held_more more (N.requests q m);
    answers = λ y m. answer-more more (λ q i. i) (λ r. below-refl) (N.answers y m);
    ordered = N.ordered;
    commits = every-cons (OnChain G.out) (decide x) n.commits (record { at = x; among = G.inserted.new; book = refl }) (λ b m. on-chain-more more (N.commits b m));
  }
    where
      more : (z : Contents 𝓢) → Among z l → Among z G.out
      more = G.inserted.old

  -- Another tablet's request is none of q's.
  request-grows : {q : 𝓢.Tablet} (l : List (Contents 𝓢)) (n : Network 𝓢) (m : Request 𝓢) → ¬ (q ≡ m.tablet)
      → Grows q l n l (with_request n m)
  request-grows {q} l n m other = record {
    elements = λ z i. i;
    old_answers = λ x i. i;
    new_answers = λ x i. inl i;
    requests = requests';
    boxes = λ r. below-refl;
  }
    where
      requests' : (y : Request 𝓢) → Among y (m ∷ n.requests) → y.tablet ≡ q → Among y n.requests
      requests' y (inl e) t = absurd (other (sym t ∙ ap (λ (w : Request 𝓢). w.tablet) e))
      requests' y (inr i) t = i

  -- A tablet saves what it sends, in a round above all of its earlier ones, and no box has answered yet.
  pub record Begins (f : Contents 𝓢) (l : List (Contents 𝓢)) (s s' : State 𝓢) : Type 0 where
    pub request : Request 𝓢
    pub pending : Asking 𝓢
    pub before : TabletState 𝓢
    pub moves : OnTablet s s' request.tablet before (record { contents = request.contents; round = request.round; phase = asking pending })
    pub network : s'.network ≡ with_request s.network request
    pub handed : s'.handed ≡ s.handed
    pub saved : pending.saved ≡ request.contents
    pub none_answered : (r : 𝓢.Box) → 𝓢.BoxIn r pending.answered → ⊥
    pub earlier : (q : Request 𝓢) → Among q s.network.requests → q.tablet ≡ request.tablet → q.round < request.round
    pub held : Held l request.contents
    pub since : pending.first_round ≤ request.round
    pub history : SinceAsk f l s.network.boxes s.network.answers request.tablet pending.first_round pending.shown
    pub own : Contained pending.asked (decide request.contents)
    pub floor : FloorFits pending.asked pending.shown request.contents pending.floor

  pub keeps-begins : {f : Contents 𝓢} {s s' : State 𝓢} (I : Invariant f s) → Begins f I.elements s s' → Invariant f s'
  keeps-begins {f} {s} {s'} I b =
      invariant-at I.elements b.network b.handed (network-request I.network m b.held)
      (on-tablet (GoodTablet f I.elements n') b.moves here others)
      I.handed
    where
      m : Request 𝓢
      m = b.request

      n' : Network 𝓢
      n' = with_request s.network m

      others : (q : 𝓢.Tablet) → ¬ (q ≡ m.tablet) → GoodTablet f I.elements n' q (s.tablets q)
      others q other = tablet-grows (request-grows I.elements s.network m other) (I.tablets q)

      rounds' : (q : Request 𝓢) → Among q (m ∷ s.network.requests) → q.tablet ≡ m.tablet → q.round ≤ m.round
      rounds' q (inl e) t = omega (arith, ap (λ (w : Request 𝓢). w.round) e)
      rounds' q (inr i) t = omega (arith, b.earlier q i t)

      saved' : (q : Request 𝓢) → Among q (m ∷ s.network.requests) → q.tablet ≡ m.tablet → q.round ≡ m.round
          → q.contents ≡ b.pending.saved
      saved' q (inl e) t c = ap (λ (w : Request 𝓢). w.contents) e ∙ sym b.saved
      saved' q (inr i) t c = absurd (omega (arith, b.earlier q i t))

      asks : GoodAsking f I.elements n' m.tablet m.contents m.round b.pending
      asks = record {
        saved = saved';
        heard = λ r i. absurd (b.none_answered r i);
        since = b.since;
        history = b.history;
        own = b.own;
        floor = b.floor;
      }

      here : GoodTablet f I.elements n' m.tablet (record { contents = m.contents; round = m.round; phase = asking b.pending })
      here = record { held = b.held; rounds = rounds'; phase = asks }
