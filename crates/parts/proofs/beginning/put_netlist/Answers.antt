use native.Mathlib.Omega.{arith}
use borrow.Author.Rules.{rules}
use Rattle.console.proofs.TextLaws.{puts_then, puts_within}
use Rattle.parts.proofs.beginning.put_netlist.Goals as goal

pub returns : goal.returns
returns c =
    let put = puts_within {n = 4096} (omega arith) (puts_then c.put_settings.ensures c.put_elements.ensures) in
    let adds = put.adds in
    search rules
