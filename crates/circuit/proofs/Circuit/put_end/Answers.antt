use mathlib.Core.Path.{refl}
use native.Mathlib.Omega.{arith}
use Rattle.circuit.proofs.FillingLaws.{touching_p, touching_q, touching_neither, put_p, put_q, put_neither}
use Rattle.circuit.proofs.Circuit.put_end.Goals as goal

pub overflow_add-self : goal.overflow_add-self
overflow_add-self c = record { fits = omega (arith, c.requires.1 (touching_p c.args.self.now.board c.args.self.now.stretches c.args.i c.args.j (rw c.in-Some-P.field-0-is at c.in-Some-P.ensures))) }

pub offset_bounds-self-k : goal.offset_bounds-self-k
offset_bounds-self-k c = record { fits = omega (arith, c.requires.1 (touching_p c.args.self.now.board c.args.self.now.stretches c.args.i c.args.j (rw c.in-Some-P.field-0-is at c.in-Some-P.ensures))) }

pub bounds-self-k : goal.bounds-self-k
bounds-self-k c = omega (arith, c.requires.1 (touching_p c.args.self.now.board c.args.self.now.stretches c.args.i c.args.j (rw c.in-Some-P.field-0-is at c.in-Some-P.ensures)))

pub overflow_add-result : goal.overflow_add-result
overflow_add-result c = record { fits = omega (arith, c.requires.1 (touching_p c.args.self.now.board c.args.self.now.stretches c.args.i c.args.j (rw c.in-Some-P.field-0-is at c.in-Some-P.ensures))) }

pub overflow_add-self-in-Some-Q-2 : goal.overflow_add-self-in-Some-Q-2
overflow_add-self-in-Some-Q-2 c = record { fits = omega (arith, c.requires.1 (touching_q c.args.self.now.board c.args.self.now.stretches c.args.i c.args.j (rw c.in-Some-Q.field-0-is at c.in-Some-Q.ensures))) }

pub offset_bounds-self-k-in-Some-Q : goal.offset_bounds-self-k-in-Some-Q
offset_bounds-self-k-in-Some-Q c = record { fits = omega (arith, c.requires.1 (touching_q c.args.self.now.board c.args.self.now.stretches c.args.i c.args.j (rw c.in-Some-Q.field-0-is at c.in-Some-Q.ensures))) }

pub bounds-self-k-in-Some-Q : goal.bounds-self-k-in-Some-Q
bounds-self-k-in-Some-Q c = omega (arith, c.requires.1 (touching_q c.args.self.now.board c.args.self.now.stretches c.args.i c.args.j (rw c.in-Some-Q.field-0-is at c.in-Some-Q.ensures)))

pub overflow_add-result-in-Some-Q : goal.overflow_add-result-in-Some-Q
overflow_add-result-in-Some-Q c = record { fits = omega (arith, c.requires.1 (touching_q c.args.self.now.board c.args.self.now.stretches c.args.i c.args.j (rw c.in-Some-Q.field-0-is at c.in-Some-Q.ensures))) }

pub returns-in-Some-P : goal.returns-in-Some-P
returns-in-Some-P c =
    (put_p c.args.self.now.board c.args.self.now.stretches c.args.i c.args.j c.args.k (rw c.in-Some-P.field-0-is at c.in-Some-P.ensures), rw (touching_p c.args.self.now.board c.args.self.now.stretches c.args.i c.args.j (rw c.in-Some-P.field-0-is at c.in-Some-P.ensures)), refl)

pub returns-in-Some-Q : goal.returns-in-Some-Q
returns-in-Some-Q c =
    (put_q c.args.self.now.board c.args.self.now.stretches c.args.i c.args.j c.args.k (rw c.in-Some-Q.field-0-is at c.in-Some-Q.ensures), rw (touching_q c.args.self.now.board c.args.self.now.stretches c.args.i c.args.j (rw c.in-Some-Q.field-0-is at c.in-Some-Q.ensures)), refl)

pub returns-in-None : goal.returns-in-None
returns-in-None c =
    (put_neither c.args.self.now.board c.args.self.now.stretches c.args.i c.args.j c.args.k c.in-None.ensures, rw (touching_neither c.args.self.now.board c.args.self.now.stretches c.args.i c.args.j c.in-None.ensures) (omega arith), refl)
