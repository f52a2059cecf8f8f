use Rattle.console.proofs.TextLaws.{puts_then}
use Rattle.parts.specs.Netlist.{setting_lines}
use Rattle.parts.proofs.beginning.put_settings.Goals as goal

pub returns : goal.returns
unfolding setting_lines
returns c =
    puts_then c.put_named.ensures (puts_then c.put_named-2.ensures (puts_then c.put_named-3.ensures c.put_named-4.ensures))
