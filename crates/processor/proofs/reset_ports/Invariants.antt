-- The loop's invariant: the ports passed are reset, the rest as they were.
use Rattle.std.proofs.Common.{◌≡◌}
use Rattle.ground.specs.laws.Arrays.{map_to}
use Rattle.processor.specs.Processor.{reset_port}
use Rattle.processor.proofs.reset_ports.Given as goal

abbrev pub invariant-loop-q : goal.invariant-loop-q
invariant-loop-q l = l.q-items ≡ map_to reset_port l.q-index l.initial.q-items
