use Rattle.std.proofs.Common.{arith}
use Rattle.guess.proofs.PlaceLaws.{in_places}
use Rattle.guess.proofs.lines.ends.Goals as goal

pub invariant_of-result : goal.invariant_of-result
invariant_of-result c =
    let f = in_places _ _ c.requires.0 in
    record {
      p_there = omega (arith, c.end_p.ensures, f.p_there c.args.j c.requires.1, f.few_nodes);
      q_there = omega (arith, c.end_q.ensures, f.q_there c.args.j c.requires.1, f.few_nodes);
    }
