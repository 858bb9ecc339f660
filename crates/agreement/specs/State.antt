-- The state of a run: the tablets, the boxes, all that was ever sent, and all books handed back.
--
-- A message that was sent is never forgotten, and may be heard at any time and any number of times. So a message that is lost, late or
-- repeated, and a device that stops, need no step of their own. Three fields are for the statements alone and no step looks at them:
-- what an ask brought, its first round, and the books that were handed back before it.
use Rattle.std.specs.Prelude.{ℕ, ◌≡◌, List, [], ◌∷◌, Option}
use Rattle.agreement.specs.Setting.{Setting, Book, Contents}

module _ (𝓢 : Setting) where
  -- An asking tablet.
  pub record Asking : Type 0 where
    -- What it kept when its round began (Figure 2, lines 5 and 6).
    pub saved : Contents 𝓢
    -- The boxes that answered that round (line 9).
    pub answered : 𝓢.Boxes
    -- The floor: unset, or a book (line 2: learnLB).
    pub floor : Option (Book 𝓢)
    -- For the statements: what the ask brought, its first round, the books handed back before it.
    pub asked : Book 𝓢
    pub first_round : ℕ
    pub shown : List (Book 𝓢)

  pub data Phase : Type 0 where
    idle : Phase
    asking : Asking → Phase

  pub record TabletState : Type 0 where
    pub contents : Contents 𝓢
    pub round : ℕ
    pub phase : Phase

  -- A request: the tablet that sent it, its round, what the tablet kept (line 8).
  pub record Request : Type 0 where
    pub tablet : 𝓢.Tablet
    pub round : ℕ
    pub contents : Contents 𝓢

  -- An answer: the box that sent it, the tablet and round that it answers, what the box kept (line 17).
  pub record Answer : Type 0 where
    pub box : 𝓢.Box
    pub tablet : 𝓢.Tablet
    pub round : ℕ
    pub contents : Contents 𝓢

  -- What the boxes keep, and all requests, answers and commits that were ever sent.
  pub record Network : Type 0 where
    pub boxes : 𝓢.Box → Contents 𝓢
    pub requests : List Request
    pub answers : List Answer
    pub commits : List (Book 𝓢)

  -- A book handed back; what its ask brought; the books handed back before that ask was accepted.
  pub record Handed : Type 0 where
    pub book : Book 𝓢
    pub asked : Book 𝓢
    pub shown : List (Book 𝓢)

  -- All of it; asks lists what each accepted ask brought.
  pub record State : Type 0 where
    pub tablets : 𝓢.Tablet → TabletState
    pub network : Network
    pub handed : List Handed
    pub asks : List (Book 𝓢)

module _ {𝓢 : Setting} where
  -- The books alone.
  abbrev pub books : List (Handed 𝓢) → List (Book 𝓢)
  books [] = []
  books (h ∷ l) = h.book ∷ books l

  -- A book as what a device keeps: v = B, candidates = B's notes, no changes (line 13).
  abbrev pub told : Book 𝓢 → Contents 𝓢
  told b = record { committed = b; candidates = b.notes; changes = 𝓢.no_changes }

  -- Fresh: every device keeps the first book; tablets are idle in round 0; nothing was sent, handed back or asked.
  pub record Fresh (first : Book 𝓢) (s : State 𝓢) : Type 0 where
    pub tablets : (p : 𝓢.Tablet) → s.tablets p ≡ record { contents = told first; round = 0; phase = idle }
    pub boxes : (r : 𝓢.Box) → s.network.boxes r ≡ told first
    pub no_requests : s.network.requests ≡ []
    pub no_answers : s.network.answers ≡ []
    pub no_commits : s.network.commits ≡ []
    pub no_handed : s.handed ≡ []
    pub no_asks : s.asks ≡ []
