-- A call on a site's server adds to the calls that it comes from, and an accepted publishing adds a file.
use Rattle.std.proofs.Common.{◌≡◌, ℕ, List, [], ◌∷◌, ◌++◌, Ok, Err, Result, MatchResult, take, refl, sym, ap, subst, ◌∙◌}
use Rattle.std.proofs.Math.Logic.{∥∥₁_map}
use Rattle.refusal.specs.Refusals.{Refusal, verdict_of}
use Rattle.server_rules.specs.declared.state.State.{State}
use Rattle.server_rules.specs.declared.state.PublishReport.{PublishReport}
use Rattle.server_rules.specs.Calls.{Call, Publishing, IsGivenLawfully, publish}
use Rattle.server_rules.specs.Publishings.{publish_verdict, file_after_publish}
use Rattle.server_rules.specs.Steps.{server_after}
use Rattle.law.specs.Runs.{Edition, verdict_editions, editions, site_of}
use Rattle.site.specs.Sites.{newest_bytes, former_bytes, IsAtWork, KeepsFiles, AddsFile}

module _ (c : Call) (given : IsGivenLawfully c) (old new : State) (is : new ≡ server_after old c) where
  -- the calls before it with this one, where it publishes these files
  at_work_after : (published : List Edition) → editions old c ≡ published → {file former newest next : List ℕ} → (w : IsAtWork old file former) →
      newest_bytes (published ++ (site_of w.calls).files) ≡ newest → former_bytes (published ++ (site_of w.calls).files) ≡ next →
      IsAtWork new newest next
  at_work_after published all w is_newest is_former =
      let same = ap (λ u. editions u c) w.is_server ∙ all in
      record {
        calls = c ∷ w.calls;
        given = (given, w.given);
        is_server = ap (λ u. server_after u c) w.is_server ∙ sym is;
        is_newest = ap (λ y. newest_bytes (y ++ (site_of w.calls).files)) same ∙ is_newest;
        is_former = ap (λ y. former_bytes (y ++ (site_of w.calls).files)) same ∙ is_former;
      }

  -- a call that publishes nothing
  pub keeps_files : editions old c ≡ [] → KeepsFiles old new
  keeps_files none file former from = ∥∥₁_map from (λ w. at_work_after [] none w w.is_newest w.is_former)

  -- a call that publishes a file
  adds_file : (x : Edition) → editions old c ≡ x ∷ [] → AddsFile old new x.bytes
  adds_file x one file former from = ∥∥₁_map from (λ w. at_work_after (x ∷ []) one w refl w.is_newest)

-- a publishing, whatever it answers
pub files_after : {F : Type 0} (means : F → Refusal) (p : Publishing) (given : IsGivenLawfully (publish p)) (old new : State)
    (is : new ≡ server_after old (publish p)) (r : Result PublishReport F) → verdict_of means r ≡ publish_verdict old p →
    (left buffer : List ℕ) → left ≡ buffer → buffer ≡ file_after_publish old p →
    MatchResult r (λ notice. AddsFile old new (take notice.bytes left)) (λ fault. KeepsFiles old new)
files_after means p given old new is (Ok notice) answer left buffer same written =
    subst (λ b. AddsFile old new (take notice.bytes b)) (sym (same ∙ written)) (adds_file (publish p) given old new is _
    (ap (λ v. verdict_editions p.wrap p.material v (file_after_publish old p)) (sym answer)))
files_after means p given old new is (Err fault) answer left buffer same written =
    keeps_files (publish p) given old new is
    (ap (λ v. verdict_editions p.wrap p.material v (file_after_publish old p)) (sym answer))
