-- Steps that may fail, one after the other: the first that fails gives its error.
use Rattle.std.specs.Prelude.{Result, Ok, Err, List, ◌++◌}

infixl 10 ◌>>=◌
abbrev pub ◌>>=◌ : {A B R : Type 0} → Result A R → (A → Result B R) → Result B R
(Ok x) >>= f = f x
(Err e) >>= f = Err e

-- what was read, by this view
abbrev pub seen : {A B R : Type 0} → (A → B) → Result A R → Result B R
seen view (Ok x) = Ok (view x)
seen view (Err e) = Err e

-- what was read before, and then this
abbrev pub after : {X B R : Type 0} → List X → Result (List X × B) R → Result (List X × B) R
after front (Ok x) = Ok (front ++ x.0, x.1)
after front (Err e) = Err e

-- these, and then what is read
abbrev pub before : {X R : Type 0} → List X → Result (List X) R → Result (List X) R
before front (Ok more) = Ok (front ++ more)
before front (Err e) = Err e
