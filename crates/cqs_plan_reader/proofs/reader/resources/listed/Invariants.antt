use Rattle.std.proofs.Common.{◌≡◌, ◌≤◌, length, vec_len, ◌++◌, map}
use Rattle.cqs_plan_reader.specs.Faults.{resource_faults}
use Rattle.cqs_plan_reader.specs.Meaning.{resource_in}
use Rattle.cqs_plan_reader.specs.Sections.{kind_of, names_of}
use Rattle.cqs_plan_reader.proofs.DataLists.{entry_view}
use Rattle.cqs_plan_reader.proofs.FirstFaults.{faults_from}
use Rattle.cqs_plan_reader.proofs.reader.resources.listed.Given as goal

abbrev pub invariant-loop-name : goal.invariant-loop-name
invariant-loop-name l = record {
  faults :
      faults_from (resource_faults (kind_of l.section) (names_of l.earlier)) 0 (map entry_view l.table.entries)
      ≡ faults_from (resource_faults (kind_of l.section) (names_of l.earlier)) (vec_len l.found)
      (map entry_view l.name-iterator);
  values :
      map (resource_in (kind_of l.section)) (map entry_view l.table.entries)
      ≡ l.found.items ++ map (resource_in (kind_of l.section)) (map entry_view l.name-iterator);
  few : length l.found.items ≤ 64;
}
