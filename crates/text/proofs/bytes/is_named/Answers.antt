use mathlib.Core.Path.{◌≡◌, ◌∙◌}
use mathlib.Core.List.{List}
use Prim.Native.Nat.{ℕ}
use lib.Dec.{eqb}
use borrow.Author.Tests.{ne_eqb}
use Rattle.std.proofs.Common.{rules, tests}
use Rattle.std.proofs.lemmas.Iterator.{YieldsList-from_slice, YieldsList-from_zip}
use Rattle.std.proofs.lemmas.Iterator.Search.{all_from_yields_List}
use Rattle.std.specs.List.{list_all, zip}
use Rattle.std.specs.Char.{to_ascii_uppercase}
use Rattle.text.specs.Bytes.{upper}
use Rattle.text.proofs.ByteLaws.{same_zipped, same_uppercase, other_lengths}
use Rattle.text.proofs.bytes.is_named.Goals as goal

pub returns-then-bytes-letters : goal.returns-then-bytes-letters
returns-then-bytes-letters c =
    let bytes : List ℕ = c.args.bytes.now in
    let each : c.all.result ≡ list_all (λ (p : ℕ × ℕ). eqb (to_ascii_uppercase p.0) p.1) (zip bytes c.args.letters.now) =
    all_from_yields_List (λ (p : ℕ × ℕ). eqb (to_ascii_uppercase p.0) p.1) c.all.new.self _ c.all.result c.all.ensures.ran (YieldsList-from_zip {s = c.zip.result} (YieldsList-from_slice bytes cc) (YieldsList-from_slice c.args.letters.now cc)) (λ x b q k. search (rules, tests)) in
    each ∙ same_zipped to_ascii_uppercase bytes c.args.letters.now c.if-bytes-letters.true ∙ same_uppercase bytes c.args.letters.now

pub returns-else-bytes-letters : goal.returns-else-bytes-letters
returns-else-bytes-letters c = ne_eqb _ _ c.if-bytes-letters.false ∙ other_lengths upper c.args.bytes.now c.args.letters.now c.if-bytes-letters.false
