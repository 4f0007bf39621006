-- Layouts as they are seen, however often their rows were copied.
use Rattle.std.specs.Prelude.{ℕ, List, map, Option, Some}
use Rattle.rd_ucd.specs.Data.{Data}
use Rattle.rd_matrix.specs.Entries.{made_entry}
use Rattle.rd_matrix.specs.declared.matrix.Entry.{Entry}
use Rattle.rd_state.specs.States.{StateValue}
use Rattle.rd_state.specs.declared.window.WindowState.{WindowState}
use Rattle.rd_tree.specs.declared.placed.Placed.{Placed}
use Rattle.rd_window.specs.Layouts.{made_layout}
use Rattle.rd_window.specs.declared.layout.Layout.{Layout}
use Rattle.rd_layout.specs.Redisplays.{update_of}
use Rattle.rd_layout.specs.Screens.{laid_out}
use Rattle.rd_layout.specs.Sessions.{SessionValue}
use Rattle.rd_layout.specs.Windows.{of_windows, view_in, wanted_of, window_shape}

-- a row that was never copied
abbrev pub uncopied_entry : Entry → Entry
uncopied_entry e = record e { row = record e.row { copies = 0 } }

abbrev pub uncopied : Layout → Layout
uncopied l = record l { matrix = map uncopied_entry l.matrix }

-- a session whose last layouts have rows that were never copied
abbrev pub without_copies : SessionValue → SessionValue
without_copies v = record v { layouts = map (λ e. (e.0, uncopied e.1)) v.layouts }

-- the layout of a window from nothing
abbrev pub fresh_layout : Data → StateValue → Placed → WindowState → ℕ × Layout
fresh_layout files s place w =
    let entries = map made_entry (view_in files s w place).rows in
    (place.number, made_layout entries (window_shape s w place) (wanted_of s w place))

-- the layouts of all windows from nothing, in leaf order
abbrev pub fresh_layouts : Data → StateValue → List (ℕ × Layout)
fresh_layouts files s = of_windows (fresh_layout files s) s

-- a session behind a redisplay that stops after so many rows, where a number is given, with rows that were never copied
abbrev pub redisplayed : SessionValue → Option ℕ → SessionValue
redisplayed v stop = record {
  files = v.files;
  state = (laid_out v.files v.state).state;
  current = Some (update_of v stop).screen;
  layouts = fresh_layouts v.files v.state;
}
