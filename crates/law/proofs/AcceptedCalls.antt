-- What holds of a site holds after any call if each accepted call keeps it: refused calls and cards change nothing.
use Rattle.std.proofs.Common.{◌≡◌, ℕ, ◌+◌, Bool, true, false, cond, not, List, ◌∷◌, ◌++◌, [], drop, Some, None, Ok, Option, is_err, refl}
use Rattle.server_rules.proofs.Ranges.{in_range}
use Rattle.refusal.specs.Refusals.{Verdict, refusal, new_or_old}
use Rattle.file_rules.specs.Files.{file_bytes}
use Rattle.cradles.specs.Cradles.{occupant, holder, has_departure, is_cradle, IsCradle}
use Rattle.server_rules.specs.declared.state.State.{State}
use Rattle.server_rules.specs.declared.state.PublishReport.{PublishReport}
use Rattle.server_rules.specs.States.{cradle, seat_index, held_cradle_index}
use Rattle.server_rules.specs.Calls.{Call, admit, remove, drop_notes, publish, card, Publishing, IsGivenLawfully}
use Rattle.keys.specs.Limits.{is_serial}
use Rattle.server_rules.specs.Notes.{admit_free_verdict, admit_verdict, remove_seat_verdict}
use Rattle.server_rules.specs.Publishings.{publishing_file, publishing_size, publish_plan_verdict}
use Rattle.server_rules.specs.Steps.{server_with_arrival, server_with_departure_at, server_of_next_epoch, is_refused_call}
use Rattle.server_rules.specs.Sound.{IsSoundServer}
use Rattle.server_rules.specs.Laws.{StateLaws}
use Rattle.law.specs.Book.{book_after}
use Rattle.law.specs.Runs.{Site, verdict_editions, site_after, server_of, AllGivenLawfully}
use Rattle.law.proofs.Editions.{accepted_or_refused, site_of_next_epoch}
use Rattle.law.proofs.CradleSearches.{found_at}

-- What admitting, removing and publishing leave, by their verdicts.

-- the site after admit
abbrev pub site_after_admit : Site → ℕ → ℕ → Verdict (Unit {0}) → Site
site_after_admit w x c v = record {
  server = new_or_old v (server_with_arrival w.server x c) w.server;
  book = book_after w.book (admit x c) (is_err v);
  files = w.files;
}

-- the site after remove, by where the search finds the seat
abbrev pub site_after_remove : Site → ℕ → Option ℕ → Verdict (Unit {0}) → Site
site_after_remove w x o v = record {
  server = new_or_old v (server_with_departure_at w.server o) w.server;
  book = book_after w.book (remove x) (is_err v);
  files = w.files;
}

-- the file buffer after a publishing
abbrev buffer_after_publish : State → Publishing → Verdict PublishReport → List ℕ
buffer_after_publish s p v = new_or_old v (file_bytes (publishing_file s p) ++ drop (publishing_size s p) p.file) p.file

-- the site after a publishing
abbrev pub site_after_publish : Site → Publishing → Verdict PublishReport → Site
site_after_publish w p v = record {
  server = new_or_old v (server_of_next_epoch w.server p.material) w.server;
  book = book_after w.book (publish p) (is_err v);
  files = verdict_editions p.wrap p.material v (buffer_after_publish w.server p v) ++ w.files;
}

-- each accepted call keeps it
pub record Keeps (P : Site → Type 0) (w : Site) : Type 0 where
  pub admits : (x c : ℕ) → admit_verdict w.server x c ≡ Ok tt → is_serial x ≡ true → IsCradle c → holder (cradle w.server c) ≡ None →
      P (site_after_admit w x c (Ok tt))
  pub removes : (x i : ℕ) → IsCradle (i + 1) → occupant (cradle w.server (i + 1)) ≡ Some x → P (site_after_remove w x (Some i) (Ok tt))
  pub drops : P (site_after w drop_notes)
  pub publishes : (p : Publishing) → IsGivenLawfully (publish p) → publish_plan_verdict w.server p ≡ Ok tt → P (site_of_next_epoch w p)

-- what admit answers, and what its checks found
pub data AdmitCase (s : State) (x c : ℕ) : Verdict (Unit {0}) → Type 0 where
  no_serial : is_serial x ≡ false → AdmitCase s x c (refusal 1 [])
  no_cradle : is_serial x ≡ true → is_cradle c ≡ false → AdmitCase s x c (refusal 2 [])
  serial_held : (i : ℕ) → is_serial x ≡ true → is_cradle c ≡ true → held_cradle_index x s ≡ Some i → AdmitCase s x c (refusal 3 ((i + 1) ∷ []))
  cradle_held : (y : ℕ) → is_serial x ≡ true → is_cradle c ≡ true → held_cradle_index x s ≡ None → holder (cradle s c) ≡ Some y →
      AdmitCase s x c (refusal 4 (y ∷ []))
  admitted : is_serial x ≡ true → is_cradle c ≡ true → held_cradle_index x s ≡ None → holder (cradle s c) ≡ None → AdmitCase s x c (Ok tt)

module _ (s : State) (x c : ℕ) where
  -- the verdict by what its checks find
  abbrev pub admit_outcome : Bool → Bool → Option ℕ → Option ℕ → Verdict (Unit {0})
  admit_outcome a k h o = cond (not a) (refusal 1 []) (cond (not k) (refusal 2 []) (admit_free_verdict h o))

  -- the answer of admit comes with what each of its checks found
  pub admit_case : AdmitCase s x c (admit_verdict s x c)
  admit_case = go (is_serial x) (is_cradle c) (held_cradle_index x s) (holder (cradle s c)) refl refl refl refl
    where
      go : (a k : Bool) (h o : Option ℕ) → is_serial x ≡ a → is_cradle c ≡ k → held_cradle_index x s ≡ h → holder (cradle s c) ≡ o →
          AdmitCase s x c (admit_outcome a k h o)
      go false k h o p q e f = no_serial p
      go true false h o p q e f = no_cradle p q
      go true true (Some i) o p q e f = serial_held i p q e
      go true true None (Some y) p q e f = cradle_held y p q e f
      go true true None None p q e f = admitted p q e f

module _ (P : Site → Type 0) (w : Site) (sound : IsSoundServer w.server) (keeps : Keeps P w) (old : P w) where
  -- what each accepted call keeps holds after admit, whatever that answers
  after_admit : (x c : ℕ) → P (site_after w (admit x c))
  after_admit x c = go (admit_case w.server x c) refl
    where
      go : {v : Verdict (Unit {0})} → AdmitCase w.server x c v → admit_verdict w.server x c ≡ v → P (site_after_admit w x c v)
      go (no_serial p) ok = old
      go (no_cradle p q) ok = old
      go (serial_held i p q f) ok = old
      go (cradle_held y p q f e) ok = old
      go (admitted p q f e) ok = keeps.admits x c ok p (in_range 1 128 c q) e

  -- what each accepted call keeps holds after remove, whatever that answers
  after_remove : (x : ℕ) → P (site_after w (remove x))
  after_remove x = go (is_serial x) (seat_index x w.server) refl
    where
      seat : (i : ℕ) → seat_index x w.server ≡ Some i → (d : Bool) → P (site_after_remove w x (Some i) (cond d (refusal 6 []) (Ok tt)))
      seat i e true = old
      seat i e false = let at = found_at w.server sound.cradle_count occupant x i e in keeps.removes x i at.0 at.1

      go : (a : Bool) (o : Option ℕ) → seat_index x w.server ≡ o → P (site_after_remove w x o (cond (not a) (refusal 1 []) (remove_seat_verdict w.server o)))
      go false o e = old
      go true None e = old
      go true (Some i) e = seat i e (has_departure (cradle w.server (i + 1)))

  -- what each accepted call keeps holds after any call that is given lawfully
  pub after_call : (c : Call) → IsGivenLawfully c → P (site_after w c)
  after_call (admit x c) given = after_admit x c
  after_call (remove x) given = after_remove x
  after_call drop_notes given = keeps.drops
  after_call (publish p) given = accepted_or_refused w.server p (λ v. P (site_after_publish w p v)) (keeps.publishes p given) (λ f. old)
  after_call (card x buffer) given = go (is_refused_call w.server (card x buffer))
    where
      go : (r : Bool) → P (record { server = w.server; book = book_after w.book (card x buffer) r; files = w.files })
      go true = old
      go false = old

-- every run leaves a sound server
module _ (laws : StateLaws) where
  -- after any calls the server is sound
  pub run_sound : (calls : List Call) → AllGivenLawfully calls → IsSoundServer (server_of calls)
  run_sound [] given = laws.new_sound
  run_sound (c ∷ earlier) given = laws.after_sound (server_of earlier) c given.0 (run_sound earlier given.1)
