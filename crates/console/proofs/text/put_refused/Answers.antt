use Rattle.std.proofs.Common.{rules}
use Rattle.console.proofs.TextLaws.{puts_then}
use Rattle.console.proofs.text.put_refused.Goals as goal

pub returns : goal.returns
returns c =
    let put = puts_then c.put_word.ensures (puts_then c.put_decimal.ensures c.put_word-2.ensures) in
    let adds = put.adds in
    search rules
