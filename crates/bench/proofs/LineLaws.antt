-- Laws of a line: a gate or a declaration, by its first `=`.
-- Assumes nothing.
use Rattle.std.specs.Prelude.{None, Some}
use Prim.Native.Nat.{ℕ, ◌+◌, ◌-◌, ◌≤◌, ◌<◌}
use mathlib.Core.Path.{◌≡◌}
use mathlib.Core.List.{List}
use native.Mathlib.Omega.{arith}
use borrow.Author.Tests.{lt-ltb, le-ltb}
use Rattle.laws.specs.Stretches.{run, is_not}
use Rattle.circuit.specs.Refusals.{Try}
use Rattle.text.specs.Blanks.{trimmed}
use Rattle.text.specs.Bytes.{first_place}
use Rattle.text.specs.Words.{bytes_of, between}
use Rattle.text.specs.declared.words.Word.{Word}
use Rattle.reading.specs.Reading.{Places, Held, State}
use Rattle.reading.specs.States.{with_held}
use Rattle.bench_invocations.proofs.Parts.{place_found, no_place}
use Rattle.bench.specs.Bench.{gate_line, declaration_line, line_step, read_line}

module _ (t : List ℕ) (p : Places) (l : Word) (s : State) where
  abbrev before : ℕ
  before = run (is_not 61) (bytes_of t l)

  pub line_gate : (cut : ℕ) → Some cut ≡ first_place 61 t l → (r : Try Held) → r ≡ gate_line t p (trimmed t (between l.start cut)) (between (cut + 1) (l.start + l.len)) s.held → with_held s.outputs r ≡ read_line t p l s
  unfolding first_place read_line line_step
  line_gate cut e r q =
      let f = place_found before l.len _ cut e in
      let k : l.start + before < l.start + l.len = omega (arith, f) in
      rw (← f.0, lt-ltb cut (l.start + l.len) (omega (arith, f)), ← q)

  pub line_declaration : None ≡ first_place 61 t l → declaration_line t p l s ≡ read_line t p l s
  unfolding first_place read_line line_step
  line_declaration e =
      let n : l.len ≤ before = no_place before l.len _ e in
      let q : l.start + l.len - l.start ≡ l.len = omega arith in
      rw (le-ltb (l.start + before) (l.start + l.len) (omega arith), q)

pub cut_inside : (t : List ℕ) (l : Word) (cut : ℕ) → Some cut ≡ first_place 61 t l → (l.start ≤ cut) × (cut < l.start + l.len)
unfolding first_place
cut_inside t l cut e =
    let f = place_found (run (is_not 61) (bytes_of t l)) l.len _ cut e in
    (omega (arith, f), omega (arith, f))
