use Rattle.std.proofs.Common.{◌≡◌, List, [], Result, Ok, Err, sym, ap, ◌∙◌}
use Rattle.rd_blocks.specs.Examples.{files}
use Rattle.rd_layout.specs.Copies.{without_copies}
use Rattle.rd_layout.specs.Examples.{after}
use Rattle.rd_layout.specs.Sessions.{SessionValue, opened}
use Rattle.rd_ucd.specs.declared.fault.UcdFault.{UcdFault}
use Rattle.rd_ucd.specs.declared.spans.BracketEntry.{BracketEntry}
use Rattle.rd_ucd.specs.declared.spans.Pair.{Pair}
use Rattle.rd_ucd.specs.declared.spans.Span.{Span}
use Rattle.rd_tests_sessions.proofs.sessions.opening.Goals as goal

abbrev list_of : {T : Type 0} → Result (List T) UcdFault → List T
list_of (Ok list) = list
list_of (Err fault) = []

-- the session of no op, over what the files were read as
from-files : (classes : List Span) (mirrors : List Pair) (brackets : List BracketEntry) (v : SessionValue)
    → ◌≡◌ {A = Result (List Span) UcdFault} (Ok files.classes) (Ok classes) → ◌≡◌ {A = Result (List Pair) UcdFault} (Ok []) (Ok mirrors) → brackets ≡ []
    → v ≡ opened (record { classes = classes; mirrors = mirrors; brackets = brackets }) → after [] ≡ Ok (without_copies v)
from-files classes mirrors brackets v p q r made =
    sym (ap (λ (w : SessionValue). Ok (without_copies w))
    (made ∙ ap (λ (b : List BracketEntry). opened (record { classes = classes; mirrors = mirrors; brackets = b })) r
    ∙ ap (λ (m : List Pair). opened (record { classes = classes; mirrors = m; brackets = [] })) (sym (ap list_of q))
    ∙ ap (λ (s : List Span). opened (record { classes = s; mirrors = []; brackets = [] })) (sym (ap list_of p))))

pub returns : goal.returns
returns c =
    from-files c.in_ok-classes.classes c.in_ok-mirrors.mirrors c.none.result c.in_ok-new.field-0 c.in_ok-classes.ensures c.in_ok-mirrors.ensures c.none.ensures c.in_ok-new.ensures
