-- `sweep::go` meets its contract. The loop's invariant: the inspections left to make from here are the rest of the sweep.
use Rattle.sweep.specs.Sweep.{set_out}
use Rattle.sweep.proofs.Way.{On}
use Rattle.sweep.proofs.go.Given as goal

abbrev pub invariant-loop-made : goal.invariant-loop-made
invariant-loop-made l = On l.n (set_out l.initial.u l.initial.mem l.initial.list) (record { made = l.made; used = l.used; mux = l.u; memory = l.mem; list = l.list })
