use Rattle.image.proofs.Promise.{read_sound}
use Rattle.bench_circuit.proofs.ask.of_bytes.Goals as goal

pub of_parts-requires : goal.of_parts-requires
of_parts-requires c = read_sound c.args.image.now _ c.in-Ok.ensures
