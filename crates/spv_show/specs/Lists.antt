-- Texts of lists. So many leaves and empty lists may be written and no more: `...` stands once in a list in place of its elements that
-- would begin after them.
use Rattle.std.specs.Prelude.{ℕ, ◌+◌, ◌-◌, ◌==◌, if◌then◌else◌, List, [], ◌∷◌, ◌++◌, codes, decimal}

-- what was written: a text, and how many leaves and empty lists may still be written behind it
pub record Shown : Type 0 where
  pub text : List ℕ
  pub left : ℕ

-- what is written where so many leaves and empty lists may be
abbrev pub Writer : Type 0
Writer = ℕ → Shown

-- a text that is no leaf
abbrev pub plain : List ℕ → Writer
plain text left = record { text = text; left = left }

-- a leaf, or an empty list
abbrev pub leaf : List ℕ → Writer
leaf text left = record { text = text; left = left - 1 }

-- what was written, and something behind it
abbrev pub continued : Shown → Writer → Shown
continued s w = record { text = s.text ++ (w s.left).text; left = (w s.left).left }

-- one behind the other
abbrev pub joined : Writer → Writer → Writer
joined v w left = continued (v left) w

-- what stands before the element with a number
abbrev pub separator : ℕ → List ℕ
separator number = if number == 0 then [] else codes ", "

-- the elements from the one with a number on
abbrev pub elements : ℕ → List Writer → Writer
elements number [] left = plain [] left
elements number (w ∷ ws) left =
    if left == 0 then plain (separator number ++ codes "...") left
    else joined (plain (separator number)) (joined w (elements (number + 1) ws)) left

-- a list between its brackets
abbrev pub bracketed : List ℕ → List ℕ → List Writer → Writer
bracketed before after [] left = leaf (before ++ after) left
bracketed before after (w ∷ ws) left = joined (plain before) (joined (elements 0 (w ∷ ws)) (plain after)) left

-- vectors and arrays, and structs
abbrev pub row_text : List Writer → Writer
row_text ws = bracketed (codes "[") (codes "]") ws

abbrev pub struct_text : List Writer → Writer
struct_text ws = bracketed (codes "{") (codes "}") ws

-- the member with a number
abbrev pub named : ℕ → Writer → Writer
named number w left = joined (plain (decimal number ++ codes " = ")) w left
