use Rattle.std.proofs.Common.{refl, arith, to_z-of_z}
use Rattle.curve.proofs.KeptLaws.{reads_pair, reads_much}
use Rattle.curve.proofs.pairs.one_more.Goals as goal

pub returns-then-n-ge-MOST : goal.returns-then-n-ge-MOST
returns-then-n-ge-MOST c = reads_much c.args.kept c.args.voltage c.args.current c.if-n-ge-MOST.true

pub returns : goal.returns
returns c =
    let volt = to_z-of_z c.ranges.voltage in
    let amp = to_z-of_z c.ranges.current in
    reads_pair c.args.kept c.args.voltage c.args.current _ (omega arith) refl (rw volt) (rw amp)
