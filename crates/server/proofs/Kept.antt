-- What every server keeps stands after each call.
use Rattle.std.proofs.Common.{◌≡◌}
use Rattle.server_rules.specs.declared.state.State.{State}
use Rattle.server_rules.specs.Calls.{Call, IsGivenLawfully}
use Rattle.server_rules.specs.Steps.{server_after}
use Rattle.server_rules.specs.Sound.{IsSoundServer}
use Rattle.law.specs.Runs.{ComesFromRun}
use Rattle.law.proofs.Servers.{sound_after, run_after}

-- a server that a call leaves is sound and comes from a run, as the one before
pub call_kept : (c : Call) → IsGivenLawfully c → (old new : State) → new ≡ server_after old c →
    IsSoundServer old × ∥ ComesFromRun old ∥₁ → IsSoundServer new × ∥ ComesFromRun new ∥₁
call_kept c given old new is kept = (sound_after c given old new is kept.0, run_after c given old new is kept.1)
