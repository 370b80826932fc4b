-- What is known of a site at work. Files are the newest first.
use Rattle.std.specs.Prelude.{◌≡◌, ℕ, List, [], ◌∷◌}
use Rattle.server_rules.specs.declared.state.State.{State}
use Rattle.server_rules.specs.Calls.{Call}
use Rattle.law.specs.Runs.{Edition, site_of, AllGivenLawfully}

-- the bytes of the newest of these files; none where there is no file
abbrev pub newest_bytes : List Edition → List ℕ
newest_bytes [] = []
newest_bytes (x ∷ earlier) = x.bytes

-- and of the one before it
abbrev pub former_bytes : List Edition → List ℕ
former_bytes [] = []
former_bytes (x ∷ earlier) = newest_bytes earlier

-- the server is what calls have made of a new one, and these are the bytes of the two newest files
-- that it published, byte for byte
pub record IsAtWork (server : State) (file former : List ℕ) : Type 0 where
  pub calls : List Call
  pub given : AllGivenLawfully calls
  pub is_server : (site_of calls).server ≡ server
  pub is_newest : newest_bytes (site_of calls).files ≡ file
  pub is_former : former_bytes (site_of calls).files ≡ former

-- whatever files were kept beside the first server may be kept beside the second
abbrev pub KeepsFiles : State → State → Type 0
KeepsFiles old new =
    (file former : List ℕ) → ∥ IsAtWork old file former ∥₁ → ∥ IsAtWork new file former ∥₁

-- these bytes are the newest file beside the second server, and what was the newest is the former
abbrev pub AddsFile : State → State → List ℕ → Type 0
AddsFile old new bytes =
    (file former : List ℕ) → ∥ IsAtWork old file former ∥₁ → ∥ IsAtWork new bytes file ∥₁
