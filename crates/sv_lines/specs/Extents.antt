-- What the values of the code stand for.
use Rattle.std.specs.Prelude.{ℕ, ◌-◌, ◌^◌, min}
use Rattle.sv_model.specs.Declarations.{Resource, BufferOf, ImageOf}
use Rattle.sv_model.specs.Declarations as model
use Rattle.sv_lines.specs.declared.passes.Pass.{Pass}
use Rattle.sv_lines.specs.declared.extent.Extent.{Extent}
use Rattle.sv_lines.specs.declared.extent.Extent.TheVariants as extent

abbrev pub as_resource : Extent → Resource
as_resource (extent.Bytes size) = BufferOf size
as_resource (extent.Image mips layers) = ImageOf mips layers

abbrev pub as_pass : Pass → model.Pass
as_pass p = record { attachments = p.attachments.now; subpasses = p.subpasses.now; deps = p.deps.now }
