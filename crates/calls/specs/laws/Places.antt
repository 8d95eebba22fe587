-- The 128 places of the array of ports: the type of the code's record has them, and here no call changes their number.
--   single_places      a single thing leaves the array as long as it was, or it is a setup, which makes all 128
--   setup_places       and a setup that is not refused gives them
-- In proofs/laws/Places, since they rest on these: keeps_places.
-- Not here: what an array past its end answers, in unit, laws/Ports.
-- Assumes nothing.
use Rattle.std.specs.Prelude.{◌≡◌, refl, ◌⊎◌, length}
use Rattle.std.proofs.Common.{inl, inr, ne_eqb}
use Rattle.std.proofs.Math.Decide.{ℕ_discrete}
use Rattle.std.proofs.lemmas.List.{length-replicate}
use Rattle.ground.specs.Choose.{pick}
use Rattle.unit.specs.declared.mux.Setting.{Setting}
use Rattle.unit.specs.Record.{fresh_port}
use Rattle.unit.specs.Reply.{World}
use Rattle.unit.specs.Refusals.{refusal, of_setup}
use Rattle.unit.specs.Sound.{AllPorts}
use Rattle.unit.proofs.laws.Replies.{setup_accepted, setup_refused}
use Rattle.lines.proofs.laws.Lines.{line_ports}
use Rattle.processor.proofs.laws.Processor.{order_ports}
use Rattle.scan.proofs.laws.Scan.{inspection_ports}
use Rattle.calls.specs.declared.call.Act.TheVariants.{Line, Processor, Inspect}
use Rattle.calls.specs.Calls.{set_up, performed}
use Rattle.calls.specs.Events.{Single, sets_up, does, writes, result, after}

-- a setup that is not refused gives all of them
pub setup_places : (w : World) (s : Setting) → refusal (of_setup s) ≡ 0 → AllPorts (after w (sets_up s)).mux
unfolding result set_up pick
setup_places w s z = rw (setup_accepted s z) (length-replicate 128 fresh_port)

-- a single thing leaves the array as long as it was, or makes all 128
pub single_places : (w : World) (a : Single) → (length (after w a).mux.port ≡ length w.mux.port) ⊎ AllPorts (after w a).mux
unfolding result performed set_up pick
single_places w (sets_up s) = go (ℕ_discrete (refusal (of_setup s)) 0)
  where
    go : Dec (refusal (of_setup s) ≡ 0) → (length (after w (sets_up s)).mux.port ≡ length w.mux.port) ⊎ AllPorts (after w (sets_up s)).mux
    go (yes z) = inr (setup_places w s z)
    go (no h) = inl (rw (setup_refused s h, ne_eqb (refusal (of_setup s)) 0 h))
single_places w (does (Line p e)) = inl (line_ports w.mux p e)
single_places w (does (Processor o)) = inl (order_ports w.mux o)
single_places w (does Inspect) = inl (inspection_ports w.mux w.memory)
single_places w (writes m) = inl refl
