-- Refusals: 01's numbers, the first fault of several, and a definition's answer or its refusal.
-- Assumes nothing.
use Rattle.std.specs.Prelude.{ℕ, Bool, true, false, Result, Ok, Err}
use Rattle.circuit.specs.declared.refusals.Refusal.{Refusal}
use Rattle.circuit.specs.declared.refusals.Refusal.TheVariants.{TextTooLong, NotAscii, NoRoom, DefinedBefore, NoDriver, WrongCount, BadRow, Unknown, Malformed, NoOutputs, HeaderMismatch, NotNumber, OutputOutside, DrivenTwice, Broken, NotEarlier, Circle, NoWindow, WrongValues, UnfitOrder, TooManyInputs}

-- "Refusals (0 is accepted)": the table's number of each
abbrev pub number_of : Refusal → ℕ
number_of TextTooLong = 1
number_of NotAscii = 2
number_of NoRoom = 3
number_of DefinedBefore = 4
number_of NoDriver = 5
number_of WrongCount = 6
number_of BadRow = 7
number_of Unknown = 8
number_of Malformed = 9
number_of NoOutputs = 10
number_of HeaderMismatch = 11
number_of NotNumber = 12
number_of OutputOutside = 13
number_of DrivenTwice = 14
number_of Broken = 15
number_of NotEarlier = 16
number_of Circle = 17
number_of NoWindow = 18
number_of WrongValues = 19
number_of UnfitOrder = 20
number_of TooManyInputs = 21

-- what a definition gives: a value, or the refusal
abbrev pub Try : Type 0 → Type 0
Try A = Result A Refusal

-- the answer of a check
abbrev pub Checked : Type 0
Checked = Try (Unit {0})

-- the fault of an answer, if it is one
abbrev pub fault_of : {A : Type 0} → Try A → Checked
fault_of (Ok a) = Ok tt
fault_of (Err e) = Err e

-- the number of an answer: "A refusal returns its number, any other result 0"
abbrev pub checked_number : {A : Type 0} → Try A → ℕ
checked_number (Ok a) = 0
checked_number (Err e) = number_of e

-- a check that refuses where a test holds
abbrev pub refuse_if : Bool → Refusal → Checked
refuse_if true e = Err e
refuse_if false e = Ok tt

-- the first fault of two checks
abbrev pub first_fault : Checked → Checked → Checked
first_fault (Err e) c = Err e
first_fault (Ok u) c = c

abbrev pub and_then : {A B : Type 0} → Try A → (A → Try B) → Try B
and_then (Err e) f = Err e
and_then (Ok a) f = f a

-- refused unless the test holds
abbrev pub need : {A : Type 0} → Bool → Refusal → Try A → Try A
need true e k = k
need false e k = Err e

-- a check, then the rest
abbrev pub check_then : {A : Type 0} → Checked → Try A → Try A
check_then (Ok u) k = k
check_then (Err e) k = Err e
