use mathlib.Core.Path.{◌≡◌, sym, ◌∙◌, ap}
use mir.Syntax.{w64}
use mir.Val.{to_z, of_z}
use mir.Facts.{to_z-of_z}
use borrow.Author.Rules.{rules}
use native.Mathlib.Omega.{arith}
use Rattle.units.proofs.Sizes.{minus_is}
use Rattle.network.specs.Kind.{kind_of}
use Rattle.network.specs.declared.kind.Kind.TheVariants.{Resistor, Capacitor, Inductor, Diode}
use Rattle.network.proofs.KindLaws.{kind_number}
use Rattle.circuit.proofs.AdvanceLaws.{next_capacitor, next_inductor, next_nothing}
use Rattle.circuit.proofs.Circuit.next_stored.Goals as goal

pub returns-in-Some-Capacitor : goal.returns-in-Some-Capacitor
returns-in-Some-Capacitor c =
    let r = c.twice.result in
    let e : to_z w64 (of_z w64 r) ≡ r = search rules in
    let k = kind_number _ Capacitor (rw c.in-Some-Capacitor.field-0-is at (sym c.of.ensures ∙ c.in-Some-Capacitor.is)) in
    minus_is _ _ r c.args.x e (to_z-of_z c.ranges.x) (omega (arith, c.twice.ensures.small, c.requires.3)) ∙ next_capacitor c.args.self.now.board c.args.self.now.stretches c.args.volts.now c.args.j c.args.x (sym c.kind.ensures ∙ k) r c.twice.ensures

pub returns-in-Some-Inductor : goal.returns-in-Some-Inductor
returns-in-Some-Inductor c =
    let r = c.twice-in-Some-Inductor.result in
    let e : to_z w64 (of_z w64 r) ≡ r = search rules in
    let k = kind_number _ Inductor (rw c.in-Some-Inductor.field-0-is at (sym c.of.ensures ∙ c.in-Some-Inductor.is)) in
    minus_is _ _ c.args.x r (to_z-of_z c.ranges.x) e (omega (arith, c.twice-in-Some-Inductor.ensures.small, c.requires.3)) ∙ next_inductor c.args.self.now.board c.args.self.now.stretches c.args.volts.now c.args.j c.args.x (sym c.kind.ensures ∙ k) r c.twice-in-Some-Inductor.ensures

pub returns-in-Some-Resistor : goal.returns-in-Some-Resistor
returns-in-Some-Resistor c =
    let k = sym c.kind.ensures ∙ kind_number _ Resistor (rw c.in-Some-Resistor.field-0-is at (sym c.of.ensures ∙ c.in-Some-Resistor.is)) in
    next_nothing c.args.self.now.board c.args.self.now.stretches c.args.volts.now c.args.j c.args.x (λ e. omega (arith, k, e)) (λ e. omega (arith, k, e))

pub returns-in-Some-Diode : goal.returns-in-Some-Diode
returns-in-Some-Diode c =
    let k = sym c.kind.ensures ∙ kind_number _ Diode (rw c.in-Some-Diode.field-0-is at (sym c.of.ensures ∙ c.in-Some-Diode.is)) in
    next_nothing c.args.self.now.board c.args.self.now.stretches c.args.volts.now c.args.j c.args.x (λ e. omega (arith, k, e)) (λ e. omega (arith, k, e))

pub returns-in-None : goal.returns-in-None
returns-in-None c =
    let k = c.kind.ensures in
    let n = sym c.of.ensures ∙ c.in-None.is in
    next_nothing c.args.self.now.board c.args.self.now.stretches c.args.volts.now c.args.j c.args.x (λ e. let z = ap kind_of (k ∙ e) in cc (z, n)) (λ e. let z = ap kind_of (k ∙ e) in cc (z, n))
