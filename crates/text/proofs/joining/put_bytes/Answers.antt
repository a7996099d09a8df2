use Rattle.std.proofs.Common.{ℕ, List, ◌≡◌, ◌+◌, ◌-◌, length, take, drop, get_or, set, ap, ◌∙◌, arith}
use Rattle.std.proofs.lemmas.List.{length-take, length-drop}
use Rattle.laws.proofs.Filling.{fill_next}
use Rattle.text.proofs.joining.put_bytes.Goals as goal

pub loop-k-preserved : goal.loop-k-preserved
loop-k-preserved c =
    let bytes = c.args.bytes.now in
    let size = c.args.out + length bytes - c.args.out in
    let rest : List ℕ = drop c.args.out c.args.joined.now in
    let sized : length (take size rest) ≡ length bytes = omega (arith, length-take size rest, length-drop c.args.out c.args.joined.now) in
    ap (λ (x : List ℕ). set x c.loop-k.k (get_or bytes c.loop-k.k 0)) c.loop-k.invariant
    ∙ fill_next 0 bytes (take size rest) c.loop-k.k (omega (arith, sized)) (omega arith)
