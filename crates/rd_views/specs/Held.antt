-- What a session is made of, as contracts see it.
use Rattle.std.specs.Prelude.{None}
use Rattle.rd_layout.specs.Sessions.{SessionValue}
use Rattle.rd_views.specs.declared.views.Views.TheInside.{Inside}

-- the session without a screen that is known
abbrev pub session_of : Inside → SessionValue
session_of v = record {
  files = record { classes = v.classes; mirrors = v.mirrors; brackets = v.brackets };
  state = v.state;
  current = None;
  layouts = v.layouts.items;
}
