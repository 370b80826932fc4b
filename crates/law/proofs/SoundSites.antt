-- What every run keeps: the book agrees with the server, and what holds of seats, keys and links.
use Rattle.std.proofs.Common.{◌≡◌, ℕ, zero, suc, ◌+◌, ◌-◌, ◌≤◌, true, ◌⊎◌, List, [], ◌∷◌, map, length, get_or, set, replicate, Some, None, Ok, refl, sym, ap}
use Rattle.std.proofs.Common.{◌∙◌, subst, inl, inr, arith, get_or-set_same, get_or-set_other, ap₂}
use Rattle.std.proofs.Math.ListN.{get_or-map}
use Rattle.std.proofs.lemmas.List.{length-map}
use Rattle.keys.specs.Names.{Keys, key_name, unmade_key, keys_in}
use Rattle.file_rules.specs.Sealing.{opener_name}
use Rattle.cradles.specs.declared.Cradle.{Cradle}
use Rattle.cradles.specs.declared.Cradle.TheVariants.{Empty}
use Rattle.cradles.specs.Cradles.{cradle_code, occupant, holder, with_arrival, with_departure, without_notes, after_change, IsCradle}
use Rattle.server_rules.specs.declared.state.State.{State}
use Rattle.server_rules.specs.States.{cradle, row, has_notes}
use Rattle.server_rules.specs.Calls.{Call, drop_notes, publish, Publishing, IsGivenLawfully}
use Rattle.keys.specs.Limits.{is_serial}
use Rattle.server_rules.specs.Notes.{admit_verdict}
use Rattle.server_rules.specs.Publishings.{publishing_plan, publish_plan_verdict}
use Rattle.server_rules.specs.Steps.{server_with_cradle, server_with_arrival, server_with_departure_at, server_of_next_epoch}
use Rattle.server_rules.specs.Sound.{IsSoundServer}
use Rattle.server_rules.specs.Laws.{IsRenewal, StateLaws}
use Rattle.server_rules.proofs.Verdicts.{plan_passed}
use Rattle.tree.specs.Tree.{countdown}
use Rattle.tree.proofs.Members.{In, map_in, contains_in}
use Rattle.law.proofs.AcceptedCalls.{site_after_admit, site_after_remove, after_call, run_sound}
use Rattle.law.proofs.CheckedProperties.{HoldsInBook, holds_next, holds_admitted, holds_at_first}
use Rattle.law.proofs.Countdowns.{falling_next}
use Rattle.tree.proofs.Members.{in_falling}
use Rattle.law.specs.Book.{Arrival, Book, book_of_next_epoch}
use Rattle.law.specs.Runs.{Edition, group_key, Site, site_after, site_of, AllGivenLawfully}
use Rattle.law.specs.Links.{IsLink}
use Rattle.law.specs.Law.{IsReadable}
use Rattle.law.proofs.SteadyStays.{IsSteady}
use Rattle.law.proofs.NextSteadyStays.{IsChange, IsLinkOfPlan, steady_next}
use Rattle.law.proofs.RootKeys.{root_key}
use Rattle.law.proofs.Agreement.{Agrees, ChangesOneCradle, admit_agrees, remove_agrees, drop_agrees, publish_agrees, seats_next, ended_next}
use Rattle.law.proofs.Editions.{link_more, new_edition, site_of_next_epoch, readable, link_new, link_is}

-- the serials of a book are serials
abbrev pub HasValidSerials : Book → Type 0
HasValidSerials = HoldsInBook (λ x c. is_serial x)

-- what every run keeps of a site
pub record IsSoundSite (w : Site) : Type 0 where
  pub same_epoch : w.server.epoch ≡ w.book.epoch
  pub agrees : Agrees (cradle w.server) w.book
  pub serials : HasValidSerials w.book
  pub steady : IsSteady w.book.epoch w.book.seats w.book.ended (λ n. (keys_in w.server.nodes n).made) (IsLink w.files)
  pub in_order : map (λ x. x.notice.epoch) w.files ≡ countdown w.book.epoch
  pub newest : (x : Edition) → In x w.files → x.notice.epoch ≡ w.server.epoch → group_key x ≡ (keys_in w.server.nodes 1).key
  pub all_readable : (x : Edition) → In x w.files → IsReadable x

-- published epochs are those up to the last
pub epochs_past : (files : List Edition) (e : ℕ) → map (λ x. x.notice.epoch) files ≡ countdown e → (x : Edition) → In x files →
    (1 ≤ x.notice.epoch) × (x.notice.epoch ≤ e)
epochs_past files e order x i = in_falling e x.notice.epoch (subst (λ (l : List ℕ). In x.notice.epoch l) order (map_in (λ y. y.notice.epoch) files x i))

-- only that cradle is another
pub one_other : (s : State) (c : ℕ) (it : Cradle) → length s.cradles ≡ 128 → IsCradle c → ChangesOneCradle (cradle s) (cradle (server_with_cradle s c it)) c it
one_other s c it n k = record {
  here = get_or-set_same s.cradles (c - 1) it Empty (omega arith);
  elsewhere = λ d h other. get_or-set_other s.cradles (c - 1) (d - 1) it Empty (λ e. other (omega arith));
}

module _ (w : Site) (sound : IsSoundServer w.server) (old : IsSoundSite w) where
  -- a site stays sound with other cradles and notes, if serials are valid and both agree
  kept_with : (cradles : List Cradle) (arrivals : List Arrival) (departures : List ℕ) →
      HasValidSerials (record w.book { arrivals = arrivals; departures = departures }) →
      Agrees (λ c. get_or cradles (c - 1) Empty) (record w.book { arrivals = arrivals; departures = departures }) →
      IsSoundSite (record {
        server = record w.server { cradles = cradles };
        book = record w.book { arrivals = arrivals; departures = departures };
        files = w.files;
      })
  kept_with cradles arrivals departures serials a = record {
    same_epoch = old.same_epoch;
    agrees = a;
    serials = serials;
    steady = old.steady;
    in_order = old.in_order;
    newest = old.newest;
    all_readable = old.all_readable;
  }

  -- an accepted admit leaves a sound site
  admit_keeps : (x c : ℕ) → admit_verdict w.server x c ≡ Ok tt → is_serial x ≡ true → IsCradle c → holder (cradle w.server c) ≡ None →
      IsSoundSite (site_after_admit w x c (Ok tt))
  admit_keeps x c ok i k e =
      kept_with (set w.server.cradles (c - 1) (with_arrival (cradle w.server c) x))
      (record { serial = x; cradle = c } ∷ w.book.arrivals) w.book.departures
      (holds_admitted (λ x c. is_serial x) w.book x c i old.serials)
      (admit_agrees (cradle w.server) (cradle (server_with_arrival w.server x c)) w.book old.agrees x c k e
      (one_other w.server c (with_arrival (cradle w.server c) x) sound.cradle_count k))

  -- an accepted remove leaves a sound site
  remove_keeps : (x i : ℕ) → IsCradle (i + 1) → occupant (cradle w.server (i + 1)) ≡ Some x → IsSoundSite (site_after_remove w x (Some i) (Ok tt))
  remove_keeps x i k is =
      kept_with (set w.server.cradles (i + 1 - 1) (with_departure (cradle w.server (i + 1))))
      w.book.arrivals (x ∷ w.book.departures) (record { seats = old.serials.seats; arrivals = old.serials.arrivals; ended = old.serials.ended })
      (remove_agrees (cradle w.server) (cradle (server_with_departure_at w.server (Some i))) w.book old.agrees x (i + 1) is
      (λ d h s. sound.seats_apart d (i + 1) x h k s is)
      (one_other w.server (i + 1) (with_departure (cradle w.server (i + 1))) sound.cradle_count k))

  -- dropping the notes leaves a sound site
  drop_keeps : IsSoundSite (site_after w drop_notes)
  drop_keeps = kept_with (map without_notes w.server.cradles) [] []
      (record { seats = old.serials.seats; arrivals = λ a h. absurd h; ended = old.serials.ended })
      (drop_agrees (cradle w.server) (λ c. get_or (map without_notes w.server.cradles) (c - 1) Empty) w.book old.agrees
      (λ d h. get_or-map without_notes w.server.cradles (d - 1) Empty))

-- an accepted plan has something noted
noted_of : (s : State) (p : Publishing) → publish_plan_verdict s p ≡ Ok tt → has_notes s ≡ true
noted_of s p e = (plan_passed s p e).0

module _ (laws : StateLaws) (w : Site) (sound : IsSoundServer w.server) (old : IsSoundSite w) (p : Publishing) (given : IsGivenLawfully (publish p)) where
  -- the server
  abbrev s : State
  s = w.server

  -- the book
  abbrev b : Book
  b = w.book

  -- the keys before the change
  abbrev former : Keys
  former = keys_in s.nodes

  -- the keys after the change
  abbrev present : Keys
  present = keys_in (server_of_next_epoch s p.material).nodes

  module _ (ok : publish_plan_verdict s p ≡ Ok tt) where
    -- what the publishing makes of seats, ended stays, keys and links
    change : IsChange b.epoch (row s) (publishing_plan s p) p.material former present b.seats (book_of_next_epoch b).seats b.ended (book_of_next_epoch b).ended
        (IsLink w.files) (IsLink (new_edition s p ∷ w.files))
    change = record {
      lawful = given.0 (row s) (length-map s.cradles cradle_code ∙ sound.cradle_count);
      root = laws.noted_root s sound (noted_of s p ok);
      renewal = subst (λ (e : ℕ). IsRenewal (e + 1) (row s) p.material former present) old.same_epoch (laws.renewal s p.material sound);
      seats_are = seats_next (cradle s) b old.agrees (row s) (λ c k. laws.code_at_leaf s c sound k);
      ended_are = ended_next (cradle s) b old.agrees (row s) (λ c k. laws.code_at_leaf s c sound k);
      links_are = λ m n l. subst (λ (e : ℕ). IsLink w.files m n ⊎ IsLinkOfPlan (e + 1) (publishing_plan s p) former present m n) old.same_epoch
          (link_is laws s p given sound ok w.files m n l);
      links_kept = link_more (new_edition s p) w.files;
      links_new = λ q i.
          subst (λ (e : ℕ). IsLink (new_edition s p ∷ w.files) (opener_name former present q.opener) (key_name q.content (e + 1))) old.same_epoch
          (link_new laws s p given sound ok w.files q i);
    }

    -- the group key of the new file is the root's new key
    newest : (x : Edition) → In x (new_edition s p ∷ w.files) → x.notice.epoch ≡ s.epoch + 1 → group_key x ≡ (present 1).key
    newest x (inl q) e = ap group_key q ∙ root_key (s.epoch + 1) (row s) p.material former present (laws.renewal s p.material sound)
        (laws.noted_root s sound (noted_of s p ok)) (plan_passed s p ok).1.1
    newest x (inr i) e = absurd (omega (arith, e, (epochs_past w.files b.epoch old.in_order x i).1, old.same_epoch))

    -- an accepted publishing leaves a sound site
    pub accepted : IsSoundSite (site_of_next_epoch w p)
    accepted = record {
      same_epoch = ap (λ n. n + 1) old.same_epoch;
      agrees = publish_agrees (cradle s) (cradle (server_of_next_epoch s p.material)) b old.agrees (λ d k. get_or-map after_change s.cradles (d - 1) Empty);
      steady = steady_next b.epoch (row s) (publishing_plan s p) p.material former present b.seats (book_of_next_epoch b).seats b.ended
          (book_of_next_epoch b).ended
          (IsLink w.files) (IsLink (new_edition s p ∷ w.files)) old.steady change;
      serials = holds_next (λ x c. is_serial x) b old.serials;
      in_order = ap₂ (λ (e : ℕ) (l : List ℕ). e ∷ l) (ap (λ n. n + 1) old.same_epoch) old.in_order ∙ sym (falling_next b.epoch);
      newest = newest;
      all_readable = λ x i. elim i [ inl q ↦ rw q (readable laws s p given sound ok) | inr j ↦ old.all_readable x j ];
    }

-- at no number, also past the end
none_made : (k n : ℕ) → (keys_in (replicate k unmade_key) n).made ≡ 0
none_made zero n = refl
none_made (suc k) zero = refl
none_made (suc k) (suc n) = none_made k n

module _ (laws : StateLaws) where
  -- any call leaves a sound site
  step : (w : Site) (c : Call) → IsGivenLawfully c → IsSoundServer w.server → IsSoundSite w → IsSoundSite (site_after w c)
  step w c given sound old = after_call IsSoundSite w sound (record {
    admits = admit_keeps w sound old;
    removes = remove_keeps w sound old;
    drops = drop_keeps w sound old;
    publishes = accepted laws w sound old;
  }) old c given

  -- a site without calls is sound
  start : IsSoundSite (site_of [])
  start = record {
    same_epoch = refl;
    agrees = record { sit = λ t i. absurd i; come = λ a i. absurd i };
    steady = record {
      seats_are = λ t i. absurd i;
      ended_are = λ t i. absurd i;
      made_past = λ n. omega (arith, none_made 256 n);
      holders_last = λ n o s i. elim i [ inl j ↦ absurd j.0 | inr j ↦ absurd j ];
      links_right = λ m n l. absurd (contains_in [] l.file l.is_file);
      path = λ t i. absurd i;
      history = λ s i. elim i [ inl j ↦ absurd j.0 | inr j ↦ absurd j ];
    };
    serials = holds_at_first (λ x c. is_serial x);
    in_order = refl;
    newest = λ x i. absurd i;
    all_readable = λ x i. absurd i;
  }

  -- after any calls the site is sound
  pub run_kept : (calls : List Call) → AllGivenLawfully calls → IsSoundSite (site_of calls)
  run_kept [] given = start
  run_kept (c ∷ earlier) given = step (site_of earlier) c given.0 (run_sound laws earlier given.1) (run_kept earlier given.1)
