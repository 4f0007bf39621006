use Rattle.rd_layout.proofs.Spotting.{echo-alone, echo-last, spot-hits}
use Rattle.rd_layout.proofs.laws.spots_are_exact.Goals as goal

pub returns-clause-echo : goal.returns-clause-echo
returns-clause-echo c = λ v row column session. echo-last v session row column

pub returns-clause-windows : goal.returns-clause-windows
returns-clause-windows c = λ v row column session. echo-alone v session row column

pub returns-clause-hits : goal.returns-clause-hits
returns-clause-hits c = λ v row column window r k shows session. spot-hits v session row column window r k shows
