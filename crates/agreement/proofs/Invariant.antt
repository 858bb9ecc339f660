-- What holds of every state that a run reaches, with a list of contents in which all commits so far stand as a chain.
--   GoodNetwork   the chain; what boxes keep and what was sent is held; the answers of one box are in order
--   GoodTablet    what a tablet keeps is held; the boxes it counts answered its own round; its floor is well set
--   GoodHanded    a book handed back is on the chain, and contains its ask and all that was shown before
--   Invariant     all of these
use Rattle.std.specs.Prelude.{Option, Some, None}
use Prim.Native.Nat.{ℕ, ◌≤◌}
use mathlib.Core.Path.{◌≡◌}
use mathlib.Core.List.{List}
use Rattle.agreement.specs.Lattice.{Among}
use Rattle.agreement.specs.Setting.{Setting, Book, Contents, Contained, decide, Below}
use Rattle.agreement.specs.State.{Asking, Phase, idle, asking, TabletState, Request, Answer, Network, Handed, State}
use Rattle.agreement.proofs.Chain.{Chain}
use Rattle.agreement.proofs.Shown.{HeldBy}
use Rattle.agreement.proofs.Merging.{OnChain, Held}
use Rattle.agreement.proofs.Evidence.{CommitEvidence, Ordered}
use Rattle.agreement.proofs.Frames.{Every}

module _ {𝓢 : Setting} where
  -- ---- The network
  -- An answer has a request that it answers and is above, and its box is above it.
  pub record GoodAnswer (l : List (Contents 𝓢)) (requests : List (Request 𝓢)) (boxes : 𝓢.Box → Contents 𝓢) (x : Answer 𝓢) : Type 0 where
    pub held : Held l x.contents
    pub request : Request 𝓢
    pub among : Among request requests
    pub tablet : request.tablet ≡ x.tablet
    pub round : request.round ≡ x.round
    pub lower : Below request.contents x.contents
    pub upper : Below x.contents (boxes x.box)

  pub record GoodNetwork (f : Contents 𝓢) (l : List (Contents 𝓢)) (n : Network 𝓢) : Type 0 where
    pub chain : Chain f (CommitEvidence n.answers) l
    pub boxes : (r : 𝓢.Box) → Held l (n.boxes r)
    pub requests : Every (λ (q : Request 𝓢). Held l q.contents) n.requests
    pub answers : Every (GoodAnswer l n.requests n.boxes) n.answers
    pub ordered : Ordered n.answers
    pub commits : Every (OnChain l) n.commits

  -- ---- Tablets
  -- Box r answered tablet p in round k, and x is above the answer.
  pub record HeardFrom (answers : List (Answer 𝓢)) (p : 𝓢.Tablet) (x : Contents 𝓢) (k : ℕ) (r : 𝓢.Box) : Type 0 where
    pub answer : Answer 𝓢
    pub among : Among answer answers
    pub box : answer.box ≡ r
    pub tablet : answer.tablet ≡ p
    pub round : answer.round ≡ k
    pub below : Below answer.contents x

  -- A floor contains what the ask brought and what was shown before it, and is contained in what x decides.
  pub record GoodFloor (asked : Book 𝓢) (shown : List (Book 𝓢)) (x : Contents 𝓢) (floor : Book 𝓢) : Type 0 where
    pub own : Contained asked floor
    pub all_shown : (b : Book 𝓢) → Among b shown → Contained b floor
    pub under : Contained floor (decide x)

  -- An unset floor has nothing to meet.
  abbrev pub FloorFits : Book 𝓢 → List (Book 𝓢) → Contents 𝓢 → Option (Book 𝓢) → Type 0
  FloorFits asked shown x None = Unit {0}
  FloorFits asked shown x (Some floor) = GoodFloor asked shown x floor

  -- As it was when p's ask was accepted in round k: what the boxes kept, and the chain, which held all books shown before. What boxes
  -- answered p since round k is above what they kept then.
  pub record SinceAsk (f : Contents 𝓢) (l : List (Contents 𝓢)) (boxes : 𝓢.Box → Contents 𝓢) (answers : List (Answer 𝓢)) (p : 𝓢.Tablet) (k : ℕ) (shown : List (Book 𝓢)) : Type 0 where
    pub snapshot : 𝓢.Box → Contents 𝓢
    pub elements : List (Contents 𝓢)
    pub chain : Chain f (HeldBy snapshot) elements
    pub still : (z : Contents 𝓢) → Among z elements → Among z l
    pub all_shown : Every (OnChain elements) shown
    pub grown : (r : 𝓢.Box) → Below (snapshot r) (boxes r)
    pub later : (a : Answer 𝓢) → Among a answers → a.tablet ≡ p → k ≤ a.round → Below (snapshot a.box) a.contents

  -- Tablet p, keeping x, asks in round k.
  pub record GoodAsking (f : Contents 𝓢) (l : List (Contents 𝓢)) (n : Network 𝓢) (p : 𝓢.Tablet) (x : Contents 𝓢) (k : ℕ) (a : Asking 𝓢) : Type 0 where
    pub saved : (q : Request 𝓢) → Among q n.requests → q.tablet ≡ p → q.round ≡ k → q.contents ≡ a.saved
    pub heard : (r : 𝓢.Box) → 𝓢.BoxIn r a.answered → HeardFrom n.answers p x k r
    pub since : a.first_round ≤ k
    pub history : SinceAsk f l n.boxes n.answers p a.first_round a.shown
    pub own : Contained a.asked (decide x)
    pub floor : FloorFits a.asked a.shown x a.floor

  abbrev pub GoodPhase : Contents 𝓢 → List (Contents 𝓢) → Network 𝓢 → 𝓢.Tablet → Contents 𝓢 → ℕ → Phase 𝓢 → Type 0
  GoodPhase f l n p x k idle = Unit {0}
  GoodPhase f l n p x k (asking a) = GoodAsking f l n p x k a

  pub record GoodTablet (f : Contents 𝓢) (l : List (Contents 𝓢)) (n : Network 𝓢) (p : 𝓢.Tablet) (t : TabletState 𝓢) : Type 0 where
    pub held : Held l t.contents
    pub rounds : (q : Request 𝓢) → Among q n.requests → q.tablet ≡ p → q.round ≤ t.round
    pub phase : GoodPhase f l n p t.contents t.round t.phase

  -- ---- Books handed back
  pub record GoodHanded (l : List (Contents 𝓢)) (h : Handed 𝓢) : Type 0 where
    pub on : OnChain l h.book
    pub own : Contained h.asked h.book
    pub all_shown : (b : Book 𝓢) → Among b h.shown → Contained b h.book

  -- ---- All
  pub record Invariant (f : Contents 𝓢) (s : State 𝓢) : Type 0 where
    pub elements : List (Contents 𝓢)
    pub network : GoodNetwork f elements s.network
    pub tablets : (p : 𝓢.Tablet) → GoodTablet f elements s.network p (s.tablets p)
    pub handed : Every (GoodHanded elements) s.handed
