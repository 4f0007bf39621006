use Rattle.std.proofs.Common.{◌∙◌, Some, take, sym, ap, if◌then◌else◌, ◌++◌, ◌∷◌, []}
use Rattle.rd_io.specs.Memory.{place_in, bytes_at}
use Rattle.rd_io.proofs.Memory.{rose-missing, rose-place, fetched-held}
use Rattle.rd_io.proofs.memory_files.MemFilesFiles.fetch.Goals as goal

pub returns-in_default-clause-failed : goal.returns-in_default-clause-failed
returns-in_default-clause-failed c =
    let place = sym (c.place_of.ensures.value ∙ ap (λ fs. place_in fs c.args.name.now) c.deref.ensures.value) ∙ c.in_default.is in
    rose-missing (place_in c.args.self.now.files.items c.args.name.now) _ c.args.self.now.missing c.failure.new.faults place c.failure.ensures.rose

pub returns-then-fails-clause-failed : goal.returns-then-fails-clause-failed
returns-then-fails-clause-failed c =
    let place = sym (c.place_of.ensures.value ∙ ap (λ fs. place_in fs c.args.name.now) c.deref.ensures.value) ∙ c.in-Some.is in
    let old = take c.args.self.now.log.failed c.args.self.now.log.entries.items in
    rose-place (place_in c.args.self.now.files.items c.args.name.now) old (take c.fails.new.self.failed c.fails.new.self.entries.items) c.args.self.now.missing c.in-Some.place place
    (c.fails.ensures.noted ∙ ap (λ b. old ++ (if b then c.in-Some.place ∷ [] else [])) c.if-fails.true)

pub returns-clause-bytes : goal.returns-clause-bytes
returns-clause-bytes c =
    let place = sym (c.place_of.ensures.value ∙ ap (λ fs. place_in fs c.args.name.now) c.deref.ensures.value) ∙ c.in-Some.is in
    let told = sym (ap (λ fs. bytes_at fs (Some c.in-Some.place)) c.deref-2.ensures.value) ∙ c.bytes_of.ensures in
    fetched-held c.args.self.now.files.items (place_in c.args.self.now.files.items c.args.name.now) c.in-Some.place c.bytes_of.result.now _ c.args.from c.copy_from.result c.copy_from.new.buf
    place told c.copy_from.ensures.copied c.copy_from.ensures.end
