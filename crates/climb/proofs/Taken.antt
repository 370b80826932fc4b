-- What an opening makes of an entry, and what an entry makes of a ring.
use Rattle.std.proofs.Common.{◌≡◌, ℕ, ◌+◌, ◌<◌, ◌≤◌, Bool, true, false, ◌&&◌, cond, eqb, List, [], length, set, Ok, Err, Some, None, Option, Result, is_some}
use Rattle.std.proofs.Common.{refl, ap}
use Rattle.std.proofs.lemmas.Bool.{le-ltb}
use Rattle.std.proofs.lemmas.Option.{get_or_from_slice_get}
use Rattle.file_reader.proofs.Laid.{wraps_nth}
use Rattle.byte_strings.specs.Numbers.{byte_at}
use Rattle.refusal.specs.Refusals.{Verdict, refusal, verdict_of, new_or_old}
use Rattle.std.specs.Prelude.{unwrap_or}
use Rattle.wrap.specs.Calls.{is_working_short}
use Rattle.keys.specs.declared.NodeKey.{NodeKey}
use Rattle.file_rules.specs.Layout.{wrap_count}
use Rattle.file_rules.specs.Reading.{wrap_at, wrap_place, wraps_from, parsed_file}
use Rattle.file_reader.specs.Refusals.{refusal_with_more}
use Rattle.file_reader.specs.Views.{wrapped_key_of, content_under}
use Rattle.file_reader.specs.declared.wraps.FileWrap.{FileWrap}
use Rattle.wrap.specs.Meaning.{WrapMeaning}
use Rattle.player_rules.specs.Climbs.{no_wrap, wrap_by_index, wrap_content, ring_with_key}
use Rattle.climb.specs.declared.fault.ReadFault.{ReadFault}
use Rattle.climb.specs.Refusals.{read_refusal, verdict_with}
use Rattle.climb.specs.Entries.{open_wrap_verdict, place_after_open_wrap, entry_with_key}

-- the wrap of an index stands at its place
pub wrap_stands : (L : ℕ) (bs : List ℕ) (index : ℕ) → index < wrap_count bs → wrap_by_index (parsed_file L bs) index ≡ wrap_at L bs (wrap_place L bs index)
wrap_stands L bs index h =
    let at = 10 + byte_at bs 7 in
    get_or_from_slice_get (wraps_from L bs at (wrap_count bs)) index (wrap_at L bs (wrap_place L bs index)) no_wrap (wraps_nth L bs at (wrap_count bs) index h)

-- the verdict of an opening, by its three tests
abbrev verdict : Bool → Bool → Option (List ℕ) → Verdict (Unit {0})
verdict short fits o = cond short (refusal 9 []) (cond (fits && is_some o) (Ok tt) (refusal 18 []))

-- an opening with room enough gives the entry of the wrap's content, or the refusal
opened : (epoch index : ℕ) (place : List ℕ) (t b : Bool) (o : Option (List ℕ)) (r : Result (Unit {0}) ReadFault) → t ≡ false →
    verdict_of read_refusal r ≡ verdict_of (refusal_with_more epoch) (verdict_of (refusal_with_more index) (verdict t b o)) →
    verdict_with {A = NodeKey} r (record { made = epoch; key = new_or_old {A = Unit {0}} (verdict t b o) (unwrap_or o place) place })
    ≡ entry_with_key epoch index (cond b o None)
opened epoch index place true b o r t e = absurd (cc)
opened epoch index place false true (Some c) (Ok u) t e = refl
opened epoch index place false true (Some c) (Err f) t e = cc
opened epoch index place false true None (Ok u) t e = cc
opened epoch index place false true None (Err f) t e = cc
opened epoch index place false false o (Ok u) t e = cc
opened epoch index place false false o (Err f) t e = cc

-- the content of a wrap becomes an entry where there are working bytes enough
pub entry_opened : (w : WrapMeaning) (key place work : List ℕ) (x : FileWrap) (r : Result (Unit {0}) ReadFault) → 512 ≤ length work →
    verdict_of read_refusal r ≡ open_wrap_verdict w key x work →
    verdict_with {A = NodeKey} r (record { made = x.content.epoch; key = place_after_open_wrap w key x place work })
    ≡ entry_with_key x.content.epoch x.index (wrap_content w x.content.epoch key (wrapped_key_of x))
entry_opened w key place work x r h e =
    opened x.content.epoch x.index place (is_working_short work) (eqb (length x.sealed.now) w.length) (content_under w key x) r (le-ltb (length work) 512 h) e

-- the entry goes into the ring
pub entry_set : (epoch k index : ℕ) (entry : NodeKey) (ring : List NodeKey) (o : Option (List ℕ)) (r : Result (Unit {0}) ReadFault) →
    verdict_with r entry ≡ entry_with_key epoch index o →
    verdict_with r (set ring k entry) ≡ ring_with_key epoch k index ring o
entry_set epoch k index entry ring (Some c) (Ok u) e = let is : entry ≡ record { made = epoch; key = c } = cc in ap (λ x. Ok (set ring k x)) is
entry_set epoch k index entry ring (Some c) (Err f) e = cc
entry_set epoch k index entry ring None (Ok u) e = cc
entry_set epoch k index entry ring None (Err f) e = cc
