use Rattle.rd_tests_sessions.proofs.costs.all_are_shown.Given as goal

abbrev pub ghosts-are_shown_on-F-Ledger : goal.ghosts-are_shown_on-F-Ledger
ghosts-are_shown_on-F-Ledger a = record { name = a.first.name; parts = a.first.parts }

abbrev pub ghosts-are_shown_on-S-Ledger : goal.ghosts-are_shown_on-S-Ledger
ghosts-are_shown_on-S-Ledger a = record { name = a.second.name; parts = a.second.parts }

abbrev pub ghosts-are_shown_on-T-Ledger : goal.ghosts-are_shown_on-T-Ledger
ghosts-are_shown_on-T-Ledger a = record { name = a.third.name; parts = a.third.parts }
