-- What the code has at hand while it walks the arguments of an invocation, one after the other.
-- Assumes nothing.
use Rattle.std.specs.Prelude.{ℕ, ◌+◌, ◌-◌, ◌≤◌, ◌<◌, ◌≡◌, cond, List, [], length, leb, ltb, Ok, Option, Some, None, IfOk, IfSome}
use Rattle.std.specs.Iterator.{YieldsFirst}
use Rattle.circuit.specs.declared.refusals.Refusal.TheVariants.{Malformed}
use Rattle.circuit.specs.Refusals.{Try, need}
use Rattle.text.specs.Words.{bytes_of, between}
use Rattle.text.specs.declared.words.Word.{Word}
use Rattle.reading.specs.Holding.{outcome}
use Rattle.bench_invocations.specs.declared.arguments.ArgumentPlaces.{ArgumentPlaces}
use Rattle.bench_invocations.specs.declared.arguments.Arguments.{Arguments}
use Rattle.bench_invocations.specs.declared.invocation.Invocation.{Invocation}
use Rattle.bench_invocations.specs.Invocations.{Invoked, up_to_last, trimmed_parts, arguments_of, none_empty}

-- the place of the last x in a stretch of a text, if there is one
unfoldable pub last_place : ℕ → List ℕ → Word → Option ℕ
last_place x t w =
    let n = up_to_last x (bytes_of t w) in
    cond (ltb 0 n) (Some (w.start + (n - 1))) None

-- the arguments from a place on, up to an end; none past the end
unfoldable pub arguments_from : List ℕ → ℕ → ℕ → List Word
arguments_from t at end = cond (leb at end) (trimmed_parts t (between at end)) []

-- the arguments at places of a text
abbrev pub arguments_at : List ℕ → ArgumentPlaces → List Word
arguments_at t p = arguments_from t p.at p.end

-- the arguments that an iterator has yet to give
abbrev pub arguments_left : Arguments → List Word
arguments_left a = arguments_from a.text.now a.at a.end

-- `next` took an iterator from old to new and gave the first of its arguments, a stretch of the same text
pub record GivesArgument (old : Arguments) (item : Option Word) (new : Arguments) : Type 0 where
  pub first : YieldsFirst arguments_left old item new
  pub same_text : new.text.now ≡ old.text.now
  pub same_end : new.end ≡ old.end
  pub is_argument : IfSome item (λ w. (w.start + w.len ≤ length old.text.now) × (old.at < new.at))

-- how many arguments there are, unless one is empty
abbrev pub counted : List Word → ℕ → Try ℕ
counted ws n = need (none_empty ws) Malformed (Ok (n + length ws))

-- an invocation as the code notes it
abbrev pub invoked : List ℕ → Invocation → Invoked
invoked t v = record { operation = v.operation; arguments = arguments_at t v.arguments }

-- what is noted stands in the text, with as many arguments as noted
pub record NotedIn (t : List ℕ) (v : Invocation) : Type 0 where
  pub operation_in : v.operation.start + v.operation.len ≤ length t
  pub arguments_in : v.arguments.end ≤ length t
  pub count_is : v.count ≡ length (arguments_at t v.arguments)

-- an invocation of the text, or the refusal
pub record InvocationIs (t : List ℕ) (r : Try Invocation) (i : Try Invoked) : Type 0 where
  pub is : outcome (invoked t) r ≡ i
  pub noted : IfOk r (NotedIn t)

-- the arguments in a stretch of a text, of an operation: "blank arguments mean none"
abbrev pub InvokedIs : List ℕ → Word → Word → Try Invocation → Type 0
InvokedIs t operation inside r =
    InvocationIs t r (need (none_empty (arguments_of t inside)) Malformed (Ok (record { operation = operation; arguments = arguments_of t inside })))
