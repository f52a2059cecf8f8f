use Rattle.image.proofs.Promise.{read_sound}
use Rattle.bench_solve.proofs.play.played.Goals as goal

pub opened-requires : goal.opened-requires
opened-requires c = read_sound c.args.image.now _ c.in-Ok.ensures
