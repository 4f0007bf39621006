use Rattle.rd_objects.proofs.Soundness.{extends_itself, extends_further, string_extends, spec_extends, face_extends, table_extends, goes_kept, named_specs, named_strings}
use Rattle.rd_objects.proofs.laws.extensions_keep_objects.Goals as goal

pub returns : goal.returns
returns c = record {
  more = record { itself = extends_itself; string = string_extends; spec = spec_extends; face = face_extends; table = table_extends };
  further = extends_further;
  strings = λ old new number e p. goes_kept old.strings new.strings number e.strings p;
  specs = λ old new number e p. goes_kept old.specs new.specs number e.specs p;
  faces = λ old new number e p. goes_kept old.faces new.faces number e.faces p;
  tables = λ old new number e p. goes_kept old.tables new.tables number e.tables p;
  named_specs = named_specs;
  named_strings = named_strings;
}
