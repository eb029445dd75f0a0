-- A line that is not refused is lawful in the trace of the lines before it.
use Rattle.std.proofs.Common.{refl}
use Rattle.sv_model.specs.declared.line.Line.{Line}
use Rattle.sv_model.specs.declared.line.Line.TheVariants as line
use Rattle.sv_rules.specs.Calls.{is_of_wrong_kind}
use Rattle.sv_trace.specs.Formed.{IsFormed}
use Rattle.sv_rules.specs.Laws.{IsLawfulLine}
use Rattle.sv_rules.specs.Taken.{Taken}
use Rattle.sv_rules.proofs.Passing.{Passes, are_declared}
use Rattle.sv_rules.proofs.LawfulLines.{work_lawful, wait_lawful, reset_lawful, rendering_lawful}
use Rattle.sv_rules.proofs.LawfulLines.{end_rendering_lawful, begin_pass_lawful, next_lawful}
use Rattle.sv_rules.proofs.LawfulLines.{end_pass_lawful}
use Rattle.sv_rules.proofs.LawfulBarriers.{barrier_lawful, set_lawful}
use Rattle.sv_rules.proofs.LawfulCalls.{initial_of, pass_lawful, fence_of, submit_lawful, wait_queue_lawful}

pub lawful : (s : Taken) (l : Line) → Passes s l → IsFormed l → IsLawfulLine s.trace l
unfolding is_of_wrong_kind
lawful s line.Blank p formed = tt
lawful s (line.Version number) p formed = tt
lawful s (line.Queue queue family lane) p formed = formed
lawful s (line.Buffer res size sharing) p formed = formed
lawful s (line.Image res mips layers initial sharing) p formed = formed
lawful s (line.Semaphore sem kind initial) p formed = (formed, initial_of kind initial p.kind)
lawful s (line.Event event) p formed = formed
lawful s (line.Fence fence signaled) p formed = formed
lawful s (line.RenderPass pass attachments subpasses deps) p formed =
    pass_lawful s pass attachments subpasses deps p formed
lawful s (line.Begin rec recorder family) p formed = tt
lawful s (line.End rec) p formed = tt
lawful s (line.Work rec accesses) p formed = work_lawful s rec accesses p formed
lawful s (line.Barrier rec deps) p formed = barrier_lawful s rec deps p formed
lawful s (line.SetEvent rec event deps) p formed = set_lawful s rec event deps p formed
lawful s (line.WaitEvent rec event) p formed = wait_lawful s rec event p
lawful s (line.ResetEvent rec event) p formed = reset_lawful s rec event p
lawful s (line.BeginRendering rec attachments) p formed = rendering_lawful s rec attachments p
lawful s (line.EndRendering rec) p formed = end_rendering_lawful s rec p
lawful s (line.BeginPass rec pass views) p formed = begin_pass_lawful s rec pass views p
lawful s (line.NextSubpass rec) p formed = next_lawful s rec p
lawful s (line.EndPass rec) p formed = end_pass_lawful s rec p
lawful s (line.Submit lane queue batches fence) p formed = (refl, submit_lawful s lane queue batches fence p)
lawful s (line.WaitFence lane fence) p formed = (
  refl,
  fence_of s.trace fence (are_declared s.trace (line.WaitFence lane fence) p.declared).fence,
)
lawful s (line.ResetFence lane fence) p formed = (
  refl,
  fence_of s.trace fence (are_declared s.trace (line.ResetFence lane fence) p.declared).fence,
)
lawful s (line.WaitQueue lane queue) p formed = (refl, wait_queue_lawful s lane queue p)
lawful s (line.WaitDevice lane) p formed = refl
