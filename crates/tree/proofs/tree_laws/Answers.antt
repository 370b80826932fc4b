use Rattle.tree.proofs.Halvings.{within_iff, beneath_iff, leaf_iff, inner_iff}
use Rattle.tree.proofs.Standing.{stands_iff, changed_iff, occupied_iff, occupied_leaf}
use Rattle.tree.proofs.tree_laws.Goals as goal

pub returns : goal.returns
returns c = record {
  within_by_halving = within_iff;
  beneath_by_halving = beneath_iff;
  leaves_by_number = leaf_iff;
  inners_by_number = inner_iff;
  stands_beneath = stands_iff;
  changed_by_codes = changed_iff;
  occupied_inner = occupied_iff;
  occupied_leaf = occupied_leaf;
}
