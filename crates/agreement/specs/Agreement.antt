-- What is promised. Of every state that any run reaches, over any setting, four things hold. They are proved in proofs/Agreement.
use Rattle.std.specs.Prelude.{◌⊎◌}
use Rattle.agreement.specs.Lattice.{Among}
use Rattle.agreement.specs.Setting.{Setting, Book, Contained}
use Rattle.agreement.specs.State.{Handed, State}
use Rattle.agreement.specs.Steps.{Run}

module _ {𝓢 : Setting} where
  pub record Promises (first : Book 𝓢) (s : State 𝓢) : Type 0 where
    -- Of any two books handed back one contains the other (Theorem 5.1).
    pub comparable : (a b : Handed 𝓢) → Among a s.handed → Among b s.handed
        → Contained a.book b.book ⊎ Contained b.book a.book
    -- Each book handed back contains what its own ask brought.
    pub own_ask : (a : Handed 𝓢) → Among a s.handed → Contained a.asked a.book
    -- Nothing comes from elsewhere: a book that contains the first book and what every accepted ask brought contains each book handed back.
    pub from_asks : (all : Book 𝓢) → Contained first all → ((b : Book 𝓢) → Among b s.asks → Contained b all)
        → (a : Handed 𝓢) → Among a s.handed → Contained a.book all
    -- Each book handed back contains every book that was handed back before its ask was accepted (Theorem 5.2).
    pub shown_stays : (a : Handed 𝓢) → Among a s.handed → (b : Book 𝓢) → Among b a.shown → Contained b a.book

-- The promise for all runs.
abbrev pub Agreement : Type 1
Agreement = (𝓢 : Setting) (first : Book 𝓢) (s : State 𝓢) → Run first s → Promises first s
