use Rattle.std.proofs.Common.{ℕ, ◌+◌, ◌≤◌, length, drop, ap, ◌∙◌, arith, length-take, length-drop}
use Rattle.byte_streams.proofs.WindowLemmas.{let_go}
use Rattle.byte_streams.proofs.window.Window.let_go.Goals as goal

pub returns : goal.returns
returns c =
    let w = c.self.inside in
    let inside : w.start + c.args.count ≤ w.end = omega (arith, length-take {A = ℕ}, length-drop {A = ℕ}, ap length c.self.view_is) in
    let_go w.bytes.items w.start w.end c.args.count inside ∙ ap (drop c.args.count) c.self.view_is
