-- The file of an accepted publishing reads back as the file of its plan, and its links are those of the plan.
use Rattle.std.proofs.Common.{◌≡◌, ℕ, ◌+◌, Bool, true, false, cond, ◌⊎◌, List, [], ◌∷◌, ◌++◌, length, take, drop, Ok, Err, refl, sym, ap, ◌∙◌, subst, inl, inr}
use Rattle.std.proofs.Common.{ltb, take_at, Contains}
use Rattle.std.proofs.lemmas.List.{length-map}
use Rattle.refusal.specs.Refusals.{Refusal, Verdict, refusal}
use Rattle.tree.specs.declared.types.Pair.{Pair}
use Rattle.tree.specs.Rows.{changed_nodes}
use Rattle.tree.proofs.Members.{In, in_map, map_in, in_contains, contains_in}
use Rattle.keys.specs.declared.KeyName.{KeyName}
use Rattle.keys.specs.Names.{Keys, key_name, keys_in}
use Rattle.file_rules.specs.Files.{Rekey, WrappedKey, file_bytes, file_size}
use Rattle.file_rules.specs.Layout.{layout_fault}
use Rattle.file_rules.specs.Reading.{parsed_file}
use Rattle.file_rules.specs.Sealing.{opener_name, pair_wrap}
use Rattle.file_rules.specs.Laws.{RoundTrips}
use Rattle.file_rules.proofs.Returned.{returned}
use Rattle.server_rules.specs.declared.state.State.{State}
use Rattle.server_rules.specs.declared.state.PublishReport.{PublishReport}
use Rattle.server_rules.specs.States.{row}
use Rattle.server_rules.specs.Calls.{Publishing, IsGivenLawfully, publish}
use Rattle.cradles.specs.Draws.{drawn_size}
use Rattle.server_rules.specs.Publishings.{publishing_plan, publishing_file, publishing_size, publish_plan_verdict, publishing_report}
use Rattle.std.specs.Result.{result_and}
use Rattle.server_rules.specs.Publishings.{publish_verdict}
use Rattle.server_rules.specs.Steps.{server_of_next_epoch}
use Rattle.server_rules.specs.Sound.{IsSoundServer}
use Rattle.server_rules.specs.Laws.{StateLaws}
use Rattle.law.specs.Book.{book_of_next_epoch}
use Rattle.law.specs.Runs.{Edition, Site}
use Rattle.law.specs.Links.{edition_file, IsLink}
use Rattle.law.specs.Law.{IsReadable}
use Rattle.law.proofs.NextSteadyStays.{IsLinkOfPlan}

-- a publishing is accepted, and tells this, or refused
pub accepted_or_refused : (s : State) (p : Publishing) (P : Verdict PublishReport → Type 0) →
    (publish_plan_verdict s p ≡ Ok tt → P (Ok (publishing_report s p))) → ((f : Refusal) → P (Err f)) → P (publish_verdict s p)
accepted_or_refused s p P done other = go (publish_plan_verdict s p) (ltb (length p.file) (publishing_size s p)) refl
  where
    go : (v : Verdict (Unit {0})) (short : Bool) → publish_plan_verdict s p ≡ v →
        P (result_and v (cond short (refusal 12 (publishing_size s p ∷ [])) (Ok (publishing_report s p))))
    go (Ok a) true e = other _
    go (Ok a) false e = done e
    go (Err f) short e = other f

-- more files, more links
pub link_more : (x : Edition) (files : List Edition) (m n : KeyName) → IsLink files m n → IsLink (x ∷ files) m n
link_more x files m n l = record {
  file = l.file;
  is_file = in_contains (x ∷ files) l.file (inr (contains_in files l.file l.is_file));
  wrap = l.wrap;
  is_wrap = l.is_wrap;
  is_opener = l.is_opener;
  is_content = l.is_content;
}

-- what an accepted publishing publishes
abbrev pub new_edition : State → Publishing → Edition
new_edition s p = record {
  notice = publishing_report s p;
  wrap = p.wrap;
  drawn = take (drawn_size (row s)) p.material;
  bytes = take (publishing_size s p) (file_bytes (publishing_file s p) ++ drop (publishing_size s p) p.file);
}

-- and what it makes of a site
abbrev pub site_of_next_epoch : Site → Publishing → Site
site_of_next_epoch w p = record {
  server = server_of_next_epoch w.server p.material;
  book = book_of_next_epoch w.book;
  files = new_edition w.server p ∷ w.files;
}

module _ (laws : StateLaws) (s : State) (p : Publishing) (given : IsGivenLawfully (publish p)) (sound : IsSoundServer s)
    (ok : publish_plan_verdict s p ≡ Ok tt) where
  -- the keys before the change
  abbrev former : Keys
  former = keys_in s.nodes

  -- the keys after the change
  abbrev present : Keys
  present = keys_in (server_of_next_epoch s p.material).nodes

  -- the bytes of the file are accepted, and read back as the file
  returns : RoundTrips p.wrap.length (publishing_file s p)
  returns = returned p.wrap.length (publishing_file s p) (laws.file_sound s p given sound ok)

  -- the file has one wrap for each pair of the plan
  wrap_count : length (publishing_file s p).wraps ≡ length (publishing_plan s p)
  wrap_count = length-map (publishing_plan s p) (pair_wrap p.wrap.seals (s.epoch + 1) former present)

  -- the file has as many bytes as its publishing counts
  size : length (file_bytes (publishing_file s p)) ≡ publishing_size s p
  size = returns.size ∙ ap (λ n. file_size p.wrap.length (length (changed_nodes (row s))) n) wrap_count

  -- what is published is the bytes of the file, and nothing of the buffer behind them
  pub bytes_are : (new_edition s p).bytes ≡ file_bytes (publishing_file s p)
  bytes_are = take_at (file_bytes (publishing_file s p)) (drop (publishing_size s p) p.file) (publishing_size s p) size

  -- what is published reads back as the file
  pub reads_back : edition_file (new_edition s p) ≡ publishing_file s p
  reads_back = ap (parsed_file p.wrap.length) bytes_are ∙ returns.reads_back

  -- a reader accepts what is published, and it says what was reported
  pub readable : IsReadable (new_edition s p)
  readable = record {
    bytes = rw bytes_are returns.bytes;
    size = ap (λ (l : List ℕ). length l) bytes_are ∙ size;
    accepted = ap (layout_fault p.wrap.kind p.wrap.length) bytes_are ∙ returns.accepts;
    epoch = ap (λ (f : Rekey). f.epoch) reads_back;
    wraps = ap (λ (f : Rekey). length f.wraps) reads_back ∙ wrap_count;
  }

  -- the wrap of a pair in its file
  abbrev wrap_of_pair : Pair → WrappedKey
  wrap_of_pair = pair_wrap p.wrap.seals (s.epoch + 1) former present

  -- each pair of the plan gives a link from its opener's key to its content's new key
  pub link_new : (files : List Edition) (q : Pair) → In q (publishing_plan s p) →
      IsLink (new_edition s p ∷ files) (opener_name former present q.opener) (key_name q.content (s.epoch + 1))
  link_new files q i = record {
    file = new_edition s p;
    is_file = in_contains (new_edition s p ∷ files) (new_edition s p) (inl refl);
    wrap = wrap_of_pair q;
    is_wrap = subst (λ (x : Rekey). Contains x.wraps (wrap_of_pair q)) (sym reads_back)
        (in_contains (publishing_file s p).wraps (wrap_of_pair q) (map_in wrap_of_pair (publishing_plan s p) q i));
    is_opener = refl;
    is_content = ap (λ (f : Rekey). key_name q.content f.epoch) reads_back;
  }

  -- a link there was in the files before, or a pair of the plan gives it
  pub link_is : (files : List Edition) (m n : KeyName) → IsLink (new_edition s p ∷ files) m n →
      IsLink files m n ⊎ IsLinkOfPlan (s.epoch + 1) (publishing_plan s p) former present m n
  link_is files m n l = go (contains_in (new_edition s p ∷ files) l.file l.is_file)
    where
      new : l.file ≡ new_edition s p → IsLinkOfPlan (s.epoch + 1) (publishing_plan s p) former present m n
      new e =
          let f : edition_file l.file ≡ publishing_file s p = ap edition_file e ∙ reads_back in
          let r = in_map wrap_of_pair (publishing_plan s p) l.wrap
          (contains_in (publishing_file s p).wraps l.wrap (subst (λ (x : Rekey). Contains x.wraps l.wrap) f l.is_wrap)) in
          record {
            from = r.0;
            is_from = r.1.0;
            is_opener = sym (ap (λ (w : WrappedKey). w.opener) r.1.1) ∙ l.is_opener;
            is_content = sym (ap (λ (w : WrappedKey). key_name w.content (s.epoch + 1)) r.1.1)
                ∙ sym (ap (λ (x : Rekey). key_name l.wrap.content x.epoch) f) ∙ l.is_content;
          }

      go : (l.file ≡ new_edition s p) ⊎ In l.file files → IsLink files m n ⊎ IsLinkOfPlan (s.epoch + 1) (publishing_plan s p) former present m n
      go (inl e) = inr (new e)
      go (inr i) = inl (record {
        file = l.file;
        is_file = in_contains files l.file i;
        wrap = l.wrap;
        is_wrap = l.is_wrap;
        is_opener = l.is_opener;
        is_content = l.is_content;
      })
