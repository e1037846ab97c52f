-- What a call answers that may refuse or find no memory, by the answer that is due.
use Rattle.std.specs.Prelude.{◌≡◌, Result, Ok, Err}
use Rattle.spv_base.specs.declared.causes.Fail.{Fail}
use Rattle.spv_base.specs.declared.causes.Fail.TheVariants.{Refused, NoMemory}

-- the answer that is due, or memory ran out
abbrev pub Answers : {T R : Type 0} → Result T R → Result T (Fail R) → Type 0
Answers due (Ok x) = due ≡ Ok x
Answers due (Err (Refused r)) = due ≡ Err r
Answers due (Err NoMemory) = Unit {0}

-- What comes after a result: a refusal stays, and what is read only where nothing was refused before.
abbrev pub after : {T U R : Type 0} → Result T R → (T → Result U R) → Result U R
after (Ok x) next = next x
after (Err refusal) next = Err refusal
