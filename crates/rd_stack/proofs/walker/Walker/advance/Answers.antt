use Rattle.rd_stack.proofs.Walks.{gives, lists, enters, ends}
use Rattle.rd_stack.proofs.walker.Walker.advance.Goals as goal

pub returns-in-Ends : goal.returns-in-Ends
returns-in-Ends c =
    let both =
    ends c.in_ok-step.field-0 c.step.new.self.few c.args.self.now.frames.items c.step.new.self.frames.items c.in_ok-step.ensures
    c.leave.new.self.few c.leave.new.self.frames.items c.in-Ends.is c.leave.ensures.few c.leave.ensures.frames in
    record { left = both.0; work = both.1 }

pub returns-in-Gives : goal.returns-in-Gives
returns-in-Gives c =
    let both =
    gives c.in_ok-step.field-0 c.step.new.self.few c.args.self.now.frames.items c.step.new.self.frames.items c.in_ok-step.ensures
    c.in-Gives.element c.in-Gives.is in
    record { left = both.0; work = both.1 }

pub returns-in-Lists : goal.returns-in-Lists
returns-in-Lists c =
    let both =
    lists c.in_ok-step.field-0 c.step.new.self.few c.args.self.now.frames.items c.step.new.self.frames.items c.in_ok-step.ensures c.in-Lists.is in
    record { left = both.0; work = both.1 }

pub returns-in_ok-enter-in-Enters : goal.returns-in_ok-enter-in-Enters
returns-in_ok-enter-in-Enters c =
    let both =
    enters c.in_ok-step.field-0 c.step.new.self.few c.args.self.now.frames.items c.step.new.self.frames.items c.in_ok-step.ensures
    c.in-Enters.entrance c.enter.new.self.few c.enter.new.self.frames.items c.in-Enters.is c.enter.ensures.few
    c.in_ok-enter-in-Enters.ensures.left c.in_ok-enter-in-Enters.ensures.count in
    record { left = both.0; work = both.1 }
