-- What a player finds and reads, and what its refusals keep.
use Rattle.player_rules.specs.Laws.{PlayerLaws}
use Rattle.player_rules.proofs.Shows.{path_shows}
use Rattle.player_rules.proofs.Searches.{found_opens, found_first, none_opens}
use Rattle.player_rules.proofs.Ways.{way_up, way_stops}
use Rattle.player_rules.proofs.Refusals.{refused_keeps}

-- all that holds of every player
pub player_laws : PlayerLaws
player_laws = record {
  found_opens = found_opens;
  found_first = found_first;
  none_opens = none_opens;
  way_up = way_up;
  way_stops = way_stops;
  refused_keeps = refused_keeps;
  shows_root = path_shows;
}
